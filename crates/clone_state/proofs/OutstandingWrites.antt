-- The outstanding writes, as they are read: one after another, and at most eight.
use Rattle.std.proofs.Common.{◌≡◌, ℕ, ◌<◌, ◌≤◌, true, false, cond, List, [], ◌∷◌, ◌++◌, length, Option, Some, None, refl, sym, ap, ◌∙◌, arith}
use Rattle.std.specs.Prelude.{nat_le}
use Rattle.std.proofs.lemmas.Bool.Decides.{nat_tests}
use Rattle.clone_state.proofs.Words.{SectorWrite, are_few, counted, one, only, read_each, write, writes, writes_in}
use Rattle.log_entry.specs.Numbers.{◌>>=◌}
use Rattle.clone_state.specs.declared.reading.controller.Outstanding.{Outstanding}
use Rattle.clone_state.proofs.Collecting.{read_count}

pub writes_more : (ws : List Outstanding) (o : Outstanding) → writes_in (ws ++ o ∷ []) ≡ writes_in ws ++ o.write ∷ []
writes_more [] o = refl
writes_more (w ∷ ws) o = ap (λ (xs : List SectorWrite). w.write ∷ xs) (writes_more ws o)

abbrev Writes : Type 0
Writes = List SectorWrite × List ℕ

abbrev if_few : Writes → Option Writes
if_few x = cond (are_few x.0) (Some x) None

abbrev as_many : ℕ × List ℕ → Option Writes
as_many r = read_each write r.0 r.1

-- there is no byte that says how many
pub no_count : (bytes : List ℕ) → one.read bytes ≡ None → writes.read bytes ≡ None
unfolding writes only counted one
no_count bytes e = ap (λ (o : Option (ℕ × List ℕ)). (o >>= as_many) >>= if_few) e

past_eight : (n : ℕ) → 8 < n → nat_le n 8 ≡ false
past_eight n more = grind (arith, nat_tests)

within_eight : (n : ℕ) → n ≤ 8 → nat_le n 8 ≡ true
within_eight n few = grind (arith, nat_tests)

-- there are more than eight
pub too_many : (bytes rest : List ℕ) (n : ℕ) → one.read bytes ≡ Some (n, rest) → 8 < n → writes.read bytes ≡ None
unfolding writes only counted one
too_many bytes rest n e more =
    ap (λ (o : Option (ℕ × List ℕ)). (o >>= as_many) >>= if_few) e ∙ go (read_each write n rest) refl
  where
    go : (o : Option Writes) → read_each write n rest ≡ o → (o >>= if_few) ≡ None
    go None is = refl
    go (Some x) is =
        let long : length x.0 ≡ n = read_count write n rest x is in
        ap (λ b. cond b (Some x) None) (past_eight (length x.0) (omega (arith, long, more)))

-- there are at most eight
pub few_read : (bytes rest : List ℕ) (n : ℕ) → one.read bytes ≡ Some (n, rest) → n ≤ 8
    → read_each write n rest ≡ writes.read bytes
unfolding writes only counted one
few_read bytes rest n e few =
    sym (ap (λ (o : Option (ℕ × List ℕ)). (o >>= as_many) >>= if_few) e ∙ go (read_each write n rest) refl)
  where
    go : (o : Option Writes) → read_each write n rest ≡ o → (o >>= if_few) ≡ o
    go None is = refl
    go (Some x) is =
        let long : length x.0 ≡ n = read_count write n rest x is in
        ap (λ b. cond b (Some x) None) (within_eight (length x.0) (omega (arith, long, few)))
