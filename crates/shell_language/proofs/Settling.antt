-- One more settled input is noted, and one more number is listed.
use Rattle.std.proofs.Common.{◌≡◌, ◌∙◌, ◌+◌, ◌<◌, ◌++◌, ◌∷◌, ℕ, List, [], ap, arith, length, refl, sym, take}
use Rattle.std.specs.Prelude.{slice_index_or}
use Rattle.std.proofs.lemmas.List.{take_more}
use Rattle.std.proofs.lemmas.List.FromFn.{map-range_with_len_more}
use Rattle.guest_lockstep.specs.declared.timed.Timed.{Timed}
use Rattle.shell_language.specs.Notes.{Progress, all_settled, settled, writes_up_to}

settled_last : (inputs : List Timed) (timed : Timed) (p : Progress)
    → all_settled (inputs ++ timed ∷ []) p ≡ settled timed.input (all_settled inputs p)
settled_last [] timed p = refl
settled_last (first ∷ more) timed p = settled_last more timed (settled first.input p)

pub settled_more : (inputs : List Timed) (i : ℕ) (none : Timed) (p : Progress) → i < length inputs
    → settled (slice_index_or inputs i none).input (all_settled (take i inputs) p) ≡ all_settled (take (i + 1) inputs) p
settled_more inputs i none p inside = sym (settled_last (take i inputs) (slice_index_or inputs i none) p)
    ∙ ap (λ them. all_settled them p) (sym (take_more inputs i none inside))

pub one_write_more : (numbers : List ℕ) (n : ℕ) → numbers ≡ writes_up_to n → numbers ++ (n + 1) ∷ [] ≡ writes_up_to (n + 1)
one_write_more numbers n e = ap (λ them. them ++ (n + 1) ∷ []) e ∙ sym (map-range_with_len_more (λ k. k + 1) 0 n n (omega arith))
