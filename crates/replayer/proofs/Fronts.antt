-- What the first entry that is held says of the next move. No entry of a run is below the count at which the run begins.
-- So if the first entry is at a later count than the machine, the next move is a step and no mark is owed; if it is at
-- the machine's count and has an input, that input is the next move; if it is a read whose bytes have arrived, the next
-- move takes the sector with these bytes; and if it is a mark, it is the one that is owed.
use Rattle.std.proofs.Common.{◌≡◌, ℕ, suc, ◌<◌, ◌≤◌, Bool, true, false, List, [], ◌∷◌, ◌++◌, Option, Some, None, refl, sym, ap, subst, ◌∙◌, arith}
use Rattle.std.proofs.lemmas.Option.{none-some}
use Rattle.event_callbacks.specs.declared.operations.Operation.{Operation}
use Rattle.guest_lockstep.specs.Machine.{Machine, Move, Do, Take}
use Rattle.guest_lockstep.specs.Recorded.{Accepts, Recorded}
use Rattle.guest_lockstep.specs.declared.input.Input.{Input}
use Rattle.guest_lockstep.specs.declared.input.Input.TheVariants.{Rx, Sent, Sector, Written}
use Rattle.guest_lockstep.specs.declared.reads.Reads.{Reads}
use Rattle.guest_lockstep.specs.Reach.{bare}
use Rattle.log_entry.specs.Entries.{count_of, entry_of, input_of, bare_of, is_read, entries}
use Rattle.log_entry.specs.Standing.{owed, TakesFetched}
use Rattle.log_entry.specs.declared.entry.Entry.{Entry}
use Rattle.log_entry.specs.declared.entry.Entry.TheVariants as entry
use Rattle.log_entry.proofs.TraceEntries.{count_entry, input_entry, same_first, same_rest, unmarked}

-- the entry of an input is no mark
no_mark-entry_of : (reads : Reads) (count : ℕ) (input : Input) → bare_of (entry_of reads count input) ≡ None → ⊥
no_mark-entry_of reads count input e = none-some (bare input) (sym e ∙ unmarked reads count input)

-- no entry is before the count at which the moves begin
not_before : (reads : Reads) (count : ℕ) (moves : List Move) (e : Entry) (es : List Entry)
    → e ∷ es ≡ entries reads count moves
    → count ≤ count_of e
not_before reads count [] e es h = absurd cc
not_before reads count (Do None ∷ moves) e es h = let later = not_before reads (suc count) moves e es h in omega arith
not_before reads count (Do (Some given) ∷ moves) e es h =
    let at : count_of e ≡ suc count =
    ap count_of (same_first e (entry.Mark (suc count)) es (entries reads (suc count) moves) h) in
    omega arith
not_before reads count (Take input ∷ moves) e es h =
    let at : count_of e ≡ count =
    ap count_of (same_first e (entry_of reads count input) es (entries reads count moves) h)
    ∙ count_entry reads count input in
    omega arith

-- nor before the machine, whether it owes a mark or not
pub not_behind : (reads : Reads) (count : ℕ) (e : Entry) (es : List Entry) (owes : Bool) (moves : List Move)
    → e ∷ es ≡ owed count owes ++ entries reads count moves → count ≤ count_of e
not_behind reads count e es true moves h =
    let at : count_of e ≡ count = ap count_of (same_first e (entry.Mark count) es (entries reads count moves) h) in
    omega arith
not_behind reads count e es false moves h = not_before reads count moves e es h

-- ---- the next move is a step

pub record NextDoes {S : Type 0} (M : Machine S) (s last : S) (owes : Bool) (moves : List Move) : Type 0 where
  pub t : S
  pub gives : Option Operation
  pub rest : List Move
  pub moves_are : moves ≡ Do gives ∷ rest
  pub owes_none : owes ≡ false
  pub made : M.step s ≡ Some (t, gives)
  pub runs : Recorded M t rest last

pub next_does : {S : Type 0} (M : Machine S) (reads : Reads) (s last : S) (e : Entry) (es : List Entry) (owes : Bool)
    (moves : List Move) → Recorded M s moves last → e ∷ es ≡ owed (M.count s) owes ++ entries reads (M.count s) moves
    → M.count s < count_of e → NextDoes M s last owes moves
next_does M reads s last e es true moves r h later =
    let at : count_of e ≡ M.count s =
    ap count_of (same_first e (entry.Mark (M.count s)) es (entries reads (M.count s) moves) h) in
    absurd (omega arith)
next_does M reads s last e es false [] r h later = absurd cc
next_does M reads s last e es false (Take input ∷ moves) r h later =
    let at : count_of e ≡ M.count s =
    ap count_of (same_first e (entry_of reads (M.count s) input) es (entries reads (M.count s) moves) h)
    ∙ count_entry reads (M.count s) input in
    absurd (omega arith)
next_does M reads s last e es false (Do gives ∷ moves) r h later = record {
  t = r.0;
  gives = gives;
  rest = moves;
  moves_are = refl;
  owes_none = refl;
  made = r.1;
  runs = r.2;
}

-- ---- the next move is an input

pub record NextTakes {S : Type 0} (M : Machine S) (reads : Reads) (s last : S) (e : Entry) (es : List Entry)
    (owes : Bool) (moves : List Move) (input : Input) : Type 0 where
  pub t : S
  pub rest : List Move
  pub moves_are : moves ≡ Take input ∷ rest
  pub owes_none : owes ≡ false
  pub entry_is : e ≡ entry_of reads (M.count s) input
  pub accepts : Accepts M s input t
  pub runs : Recorded M t rest last
  pub next_ones : es ≡ entries reads (M.count s) rest

pub next_takes : {S : Type 0} (M : Machine S) (reads : Reads) (s last : S) (e : Entry) (es : List Entry)
    (owes : Bool) (moves : List Move) (input : Input) → Recorded M s moves last
    → e ∷ es ≡ owed (M.count s) owes ++ entries reads (M.count s) moves → M.count s ≡ count_of e
    → input_of e ≡ Some input
    → NextTakes M reads s last e es owes moves input
next_takes M reads s last e es true moves input r h at has =
    let mark : None ≡ Some input =
    sym (ap input_of (same_first e (entry.Mark (M.count s)) es (entries reads (M.count s) moves) h)) ∙ has in
    absurd cc
next_takes M reads s last e es false [] input r h at has = absurd cc
next_takes M reads s last e es false (Do None ∷ moves) input r h at has =
    let later = not_before reads (suc (M.count s)) moves e es h in absurd (omega arith)
next_takes M reads s last e es false (Do (Some given) ∷ moves) input r h at has =
    let later : count_of e ≡ suc (M.count s) =
    ap count_of (same_first e (entry.Mark (suc (M.count s))) es (entries reads (suc (M.count s)) moves) h) in
    absurd (omega arith)
next_takes M reads s last e es false (Take other ∷ moves) input r h at has =
    let entry_is : e ≡ entry_of reads (M.count s) other =
    same_first e (entry_of reads (M.count s) other) es (entries reads (M.count s) moves) h in
    let same : other ≡ input =
    input_entry reads (M.count s) other input (sym (ap input_of entry_is) ∙ has) in
    let taken : NextTakes M reads s last e es false (Take other ∷ moves) other = record {
      t = r.0;
      rest = moves;
      moves_are = refl;
      owes_none = refl;
      entry_is = entry_is;
      accepts = r.1;
      runs = r.2;
      next_ones = same_rest e (entry_of reads (M.count s) other) es (entries reads (M.count s) moves) h;
    } in
    subst (λ input. NextTakes M reads s last e es false (Take other ∷ moves) input) same taken

-- ---- bytes have come

-- they have come for a read alone
pub none_for : (e : Entry) (es : List Entry) (fetched : Option (List ℕ)) (moves : List Move) → is_read e ≡ false
    → TakesFetched fetched (e ∷ es) moves → fetched ≡ None
none_for e es None moves other takes = refl
none_for (entry.Mark count) es (Some bytes) moves other takes = absurd takes
none_for (entry.Rx count port byte) es (Some bytes) moves other takes = absurd takes
none_for (entry.Sent count port) es (Some bytes) moves other takes = absurd takes
none_for (entry.Sector count drive sector number of_it) es (Some bytes) moves other takes = absurd takes
none_for (entry.Written count number) es (Some bytes) moves other takes = absurd takes
none_for (entry.Read count drive sector number) es fetched moves other takes = absurd cc

-- and the next move is no step
pub none_at_step : (held : List Entry) (fetched : Option (List ℕ)) (moves rest : List Move) (gives : Option Operation)
    → moves ≡ Do gives ∷ rest → TakesFetched fetched held moves → fetched ≡ None
none_at_step held None moves rest gives are takes = refl
none_at_step held (Some bytes) moves rest gives are takes =
    absurd (go held (subst (λ moves. TakesFetched (Some bytes) held moves) are takes))
  where
    go : (held : List Entry) → TakesFetched (Some bytes) held (Do gives ∷ rest) → ⊥
    go [] takes = takes
    go (entry.Mark count ∷ es) takes = takes
    go (entry.Rx count port byte ∷ es) takes = takes
    go (entry.Sent count port ∷ es) takes = takes
    go (entry.Sector count drive sector number other ∷ es) takes = takes
    go (entry.Written count number ∷ es) takes = takes
    go (entry.Read count drive sector number ∷ es) takes = takes

pub takes_none : (held : List Entry) (fetched : Option (List ℕ)) (moves : List Move) → fetched ≡ None
    → TakesFetched fetched held moves
takes_none held fetched moves none = subst (λ fetched. TakesFetched fetched held moves) (sym none) tt

-- a mark is no read, nor is an entry that carries its input
pub mark_not_read : (e : Entry) → bare_of e ≡ None → is_read e ≡ false
mark_not_read (entry.Mark count) none = refl
mark_not_read (entry.Rx count port byte) none = absurd cc
mark_not_read (entry.Sent count port) none = absurd cc
mark_not_read (entry.Sector count drive sector number bytes) none = absurd cc
mark_not_read (entry.Written count number) none = absurd cc
mark_not_read (entry.Read count drive sector number) none = absurd cc

pub input_not_read : (e : Entry) (input : Input) → input_of e ≡ Some input → is_read e ≡ false
input_not_read (entry.Mark count) input has = refl
input_not_read (entry.Rx count port byte) input has = refl
input_not_read (entry.Sent count port) input has = refl
input_not_read (entry.Sector count drive sector number bytes) input has = refl
input_not_read (entry.Written count number) input has = refl
input_not_read (entry.Read count drive sector number) input has = absurd cc

-- the next move takes the sector of the read with these bytes
pub next_reads : {S : Type 0} (M : Machine S) (reads : Reads) (s last : S) (count drive sector number : ℕ)
    (es later : List Entry) (owes : Bool) (moves : List Move) (bytes : List ℕ) → Recorded M s moves last
    → entry.Read count drive sector number ∷ (es ++ later) ≡ owed (M.count s) owes ++ entries reads (M.count s) moves
    → TakesFetched (Some bytes) (entry.Read count drive sector number ∷ es) moves
    → NextTakes M reads s last (entry.Read count drive sector number) (es ++ later) owes moves
    (Sector drive sector number bytes)
next_reads M reads s last count drive sector number es later true moves bytes r h takes =
    let first = same_first (entry.Read count drive sector number) (entry.Mark (M.count s)) (es ++ later)
    (entries reads (M.count s) moves) h in
    absurd cc
next_reads M reads s last count drive sector number es later false [] bytes r h takes = absurd takes
next_reads M reads s last count drive sector number es later false (Do gives ∷ moves) bytes r h takes = absurd takes
next_reads M reads s last count drive sector number es later false (Take input ∷ moves) bytes r h takes =
    let read = entry.Read count drive sector number in
    let taken : NextTakes M reads s last read (es ++ later) false (Take input ∷ moves) input = record {
      t = r.0;
      rest = moves;
      moves_are = refl;
      owes_none = refl;
      entry_is = same_first read (entry_of reads (M.count s) input) (es ++ later) (entries reads (M.count s) moves) h;
      accepts = r.1;
      runs = r.2;
      next_ones = same_rest read (entry_of reads (M.count s) input) (es ++ later) (entries reads (M.count s) moves) h;
    } in
    subst (λ other. NextTakes M reads s last read (es ++ later) false (Take input ∷ moves) other) takes taken

-- ---- the entry is the mark that is owed

pub record NextPasses (reads : Reads) (count : ℕ) (e : Entry) (es : List Entry) (owes : Bool)
    (moves : List Move) : Type 0 where
  pub owes_one : owes ≡ true
  pub entry_is : e ≡ entry.Mark count
  pub next_ones : es ≡ entries reads count moves

pub next_passes : (reads : Reads) (count : ℕ) (e : Entry) (es : List Entry) (owes : Bool) (moves : List Move)
    → e ∷ es ≡ owed count owes ++ entries reads count moves → count ≡ count_of e → bare_of e ≡ None
    → NextPasses reads count e es owes moves
next_passes reads count e es true moves h at has = record {
  owes_one = refl;
  entry_is = same_first e (entry.Mark count) es (entries reads count moves) h;
  next_ones = same_rest e (entry.Mark count) es (entries reads count moves) h;
}
next_passes reads count e es false [] h at has = absurd cc
next_passes reads count e es false (Do None ∷ moves) h at has =
    let later = not_before reads (suc count) moves e es h in absurd (omega arith)
next_passes reads count e es false (Do (Some given) ∷ moves) h at has =
    let later : count_of e ≡ suc count =
    ap count_of (same_first e (entry.Mark (suc count)) es (entries reads (suc count) moves) h) in
    absurd (omega arith)
next_passes reads count e es false (Take input ∷ moves) h at has =
    absurd (no_mark-entry_of reads count input
    (sym (ap bare_of (same_first e (entry_of reads count input) es (entries reads count moves) h)) ∙ has))
