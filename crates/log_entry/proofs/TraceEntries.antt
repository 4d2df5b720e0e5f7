-- The entries of a trace, move by move: a step adds a mark or nothing and raises the count, and an input adds its own
-- entry at the current count. So the inputs come back in order, and no count is below the one before it.
use Rattle.std.proofs.Common.{◌≡◌, ℕ, suc, ◌+◌, ◌≤◌, List, [], ◌∷◌, Some, None, refl, sym, ap, subst, arith, ◌++◌, ◌∙◌}
use Rattle.guest_lockstep.specs.Machine.{Move, Do, Take}
use Rattle.guest_lockstep.specs.declared.input.Input.{Input}
use Rattle.guest_lockstep.specs.declared.input.Input.TheVariants.{Rx, Sent, Sector, Written}
use Rattle.guest_lockstep.specs.declared.reads.Reads.{Reads}
use Rattle.guest_lockstep.specs.declared.reads.Reads.TheVariants.{Logged, Shared}
use Rattle.guest_lockstep.specs.Reach.{timed, steps, bare}
use Rattle.guest_lockstep.specs.declared.timed.Timed.{Timed}
use Rattle.log_entry.specs.declared.entry.Entry.{Entry}
use Rattle.log_entry.specs.Entries.{count_of, entry_of, timed_of, entries, last_count, bare_of, input_of}
use Rattle.log_entry.specs.Laws.{KeepsInputs, NeverFalls, StandInOrder}
use Rattle.log_entry.specs.declared.entry.Entry.TheVariants.{Mark}

-- ---- entries, one after another

pub same_first : (a b : Entry) (xs ys : List Entry) → a ∷ xs ≡ b ∷ ys → a ≡ b
same_first a b xs ys e = cc

pub same_rest : (a b : Entry) (xs ys : List Entry) → a ∷ xs ≡ b ∷ ys → xs ≡ ys
same_rest a b xs ys e = cc

-- ---- the entry of an input

-- it has that input, at that count
pub input_comes_back : (reads : Reads) (count : ℕ) (i : Input) → timed_of (entry_of reads count i) ≡ Some (timed count i)
input_comes_back reads count (Rx port byte) = refl
input_comes_back reads count (Sent port) = refl
input_comes_back Logged count (Sector drive sector number bytes) = refl
input_comes_back Shared count (Sector drive sector number bytes) = refl
input_comes_back reads count (Written number) = refl

pub count_entry : (reads : Reads) (count : ℕ) (i : Input) → count_of (entry_of reads count i) ≡ count
count_entry reads count (Rx port byte) = refl
count_entry reads count (Sent port) = refl
count_entry Logged count (Sector drive sector number bytes) = refl
count_entry Shared count (Sector drive sector number bytes) = refl
count_entry reads count (Written number) = refl

-- it carries that input, or none
pub input_entry : (reads : Reads) (count : ℕ) (i j : Input) → input_of (entry_of reads count i) ≡ Some j → i ≡ j
input_entry reads count (Rx port byte) j h = (cc)
input_entry reads count (Sent port) j h = (cc)
input_entry Logged count (Sector drive sector number bytes) j h = (cc)
input_entry Shared count (Sector drive sector number bytes) j h = (cc)
input_entry reads count (Written number) j h = (cc)

-- it is no mark
pub unmarked : (reads : Reads) (count : ℕ) (i : Input) → bare_of (entry_of reads count i) ≡ Some (bare i)
unmarked reads count (Rx port byte) = refl
unmarked reads count (Sent port) = refl
unmarked Logged count (Sector drive sector number bytes) = refl
unmarked Shared count (Sector drive sector number bytes) = refl
unmarked reads count (Written number) = refl

-- ---- moves joined end to end

pub entries-append : (reads : Reads) (c : ℕ) (xs ys : List Move) → entries reads c (xs ++ ys) ≡ entries reads c xs ++ entries reads (c + steps xs) ys
entries-append reads c [] ys = let e : c ≡ c + 0 = omega arith in ap (λ k. entries reads k ys) e
entries-append reads c (Do None ∷ xs) ys =
    let e : suc c + steps xs ≡ c + suc (steps xs) = omega arith in
    entries-append reads (suc c) xs ys ∙ ap (λ k. entries reads (suc c) xs ++ entries reads k ys) e
entries-append reads c (Do (Some o) ∷ xs) ys =
    let e : suc c + steps xs ≡ c + suc (steps xs) = omega arith in
    ap (λ es. Mark (suc c) ∷ es) (entries-append reads (suc c) xs ys ∙ ap (λ k. entries reads (suc c) xs ++ entries reads k ys) e)
entries-append reads c (Take i ∷ xs) ys = ap (λ es. entry_of reads c i ∷ es) (entries-append reads c xs ys)

-- ---- the inputs

pub keeps_inputs : KeepsInputs
keeps_inputs reads count [] = refl
keeps_inputs reads count (Do None ∷ moves) = keeps_inputs reads (suc count) moves
keeps_inputs reads count (Do (Some operation) ∷ moves) = keeps_inputs reads (suc count) moves
keeps_inputs reads count (Take i ∷ moves) =
    rw (input_comes_back reads count i) (ap (λ (ts : List Timed). timed count i ∷ ts) (keeps_inputs reads count moves))

-- ---- the order

-- what does not fall from a count does not fall from a lower one
pub from_below : (low count : ℕ) (es : List Entry) → low ≤ count → NeverFalls count es → NeverFalls low es
from_below low count [] le falls = tt
from_below low count (e ∷ es) le falls = (let at_least = falls.0 in omega arith, falls.1)

pub never_falls : (reads : Reads) (count : ℕ) (moves : List Move) → NeverFalls count (entries reads count moves)
never_falls reads count [] = tt
never_falls reads count (Do None ∷ moves) =
    from_below count (suc count) (entries reads (suc count) moves) (omega arith) (never_falls reads (suc count) moves)
never_falls reads count (Do (Some operation) ∷ moves) = (omega arith, never_falls reads (suc count) moves)
never_falls reads count (Take i ∷ moves) = rw (count_entry reads count i) (omega arith, never_falls reads count moves)

-- the last entry is no further than where the trace ends
last_within : (reads : Reads) (low count : ℕ) (moves : List Move) → low ≤ count
    → last_count low (entries reads count moves) ≤ count + steps moves
last_within reads low count [] le = omega arith
last_within reads low count (Do None ∷ moves) le =
    let rest = last_within reads low (suc count) moves (omega arith) in omega arith
last_within reads low count (Do (Some operation) ∷ moves) le =
    let rest = last_within reads (suc count) (suc count) moves (omega arith) in omega arith
last_within reads low count (Take i ∷ moves) le =
    let Within : ℕ → Type 0 = λ last. last_count last (entries reads count moves) ≤ count + steps moves in
    subst Within (sym (count_entry reads count i)) (last_within reads count count moves (omega arith))

pub stand_in_order : (reads : Reads) (count : ℕ) (moves : List Move) → StandInOrder reads count moves
stand_in_order reads count moves = record {
  in_order = never_falls reads count moves;
  within = last_within reads count count moves (omega arith);
}
