-- The test of two names is an equivalence: a name that is equal to one of two different names is not the other.
use Rattle.std.proofs.Common.{◌≡◌, ◌≢◌, true, false, refl, sym, ap, ◌∙◌}
use Rattle.std.specs.Cmp.{IsEquivalence}
use Rattle.event_callbacks.specs.declared.operations.OpId.{OpId}
use Rattle.event_callbacks.proofs.Names.{equal_from_same, same_name-different, same_name-itself}
use Rattle.output_rule.specs.Notes.{same_name}

-- a name that is equal to one of two different names is not the other
pub same_name-other : (i j k : OpId) → same_name i j ≡ true → k ≢ j → same_name i k ≡ false
same_name-other i j k same differs =
    same_name-different i k (λ e. differs (let is = equal_from_same i j same in cc))

same_name-swapped : (i j : OpId) → same_name i j ≡ same_name j i
same_name-swapped i j =
    elim (same_name i j) as (λ b. same_name i j ≡ b → b ≡ same_name j i) [
      | true ↦ λ e. sym (ap (λ k. same_name j k) (equal_from_same i j e) ∙ same_name-itself j)
      | false ↦ λ e.
          sym (same_name-different j i (λ is.
          let itself = ap (λ k. same_name i k) is ∙ same_name-itself i in cc))
    ] refl

pub same_name-IsEquivalence : IsEquivalence same_name
same_name-IsEquivalence = record {
  refl = same_name-itself;
  symm = same_name-swapped;
  congr = λ i j k e. ap (λ n. same_name n k) (equal_from_same i j e);
}
