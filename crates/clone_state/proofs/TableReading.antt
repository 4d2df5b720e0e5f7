-- The numbers of a table are read one after another.
use Rattle.std.proofs.Common.{◌≡◌, ℕ, suc, ◌+◌, ◌<◌, Bool, cond, List, [], ◌∷◌, ◌++◌, length, take, Option, Some, None, refl, sym, ap, ◌∙◌, arith}
use Rattle.std.specs.Prelude.{◌==◌, slice_set}
use Rattle.std.proofs.Math.Seq.{take-suc-set}
use Rattle.clone_state.proofs.Words.{Codec, alone, number, number_from, read_all, table, times}
use Rattle.clone_state.proofs.Collecting.{collected, none_collected}

pub number_reads : (bytes : List ℕ) → number.read bytes ≡ number_from bytes
unfolding number
number_reads bytes = refl

-- at first no number was read
as_times : (n : ℕ) (c : Codec ℕ) (bytes : List ℕ) → (times n c).read bytes ≡ collected c [] n bytes
unfolding times
as_times n c bytes = none_collected c n bytes

pub table_starts : (payload : List ℕ) → table.read payload ≡ collected number [] 32 payload
unfolding table
table_starts payload = as_times 32 number payload

pub next_taken : (numbers : List ℕ) (i n : ℕ) → i < length numbers
    → take (i + 1) (slice_set numbers i n) ≡ take i numbers ++ n ∷ []
next_taken numbers i n inside =
    let next : i + 1 ≡ suc i = omega arith in
    ap (λ k. take k (slice_set numbers i n)) next ∙ take-suc-set numbers i n inside

pub none_alone : (payload : List ℕ) → table.read payload ≡ None → read_all table payload ≡ None
none_alone payload e = ap (λ (o : Option (List ℕ × List ℕ)). alone o) e

pub some_alone : (payload xs rest : List ℕ) (b : Bool) → table.read payload ≡ Some (xs, rest) → b ≡ (length rest == 0)
    → read_all table payload ≡ cond b (Some xs) None
some_alone payload xs rest b e is =
    ap (λ (o : Option (List ℕ × List ℕ)). alone o) e ∙ ap (λ c. cond c (Some xs) None) (sym is)
