-- When two names are equal. A spelling determines its name, since its first number says what is named and the others
-- are the name's own numbers. The order of spellings is total and ties only equal ones; so does the order of names, and
-- the test by which the map compares two names says whether they are equal, and so does the test of their kinds and
-- numbers.
use Rattle.std.proofs.Common.{◌≡◌, ◌≢◌, ◌⊎◌, Bool, true, false, refl, subst, inl, inr, arith}
use Rattle.std.specs.declared.cmp.Ordering.{Ordering}
use Rattle.std.specs.declared.cmp.Ordering.TheVariants.{Less, Equal, Greater}
use Rattle.std.specs.Ordering.{eq_by_cmp, is_eq}
use Rattle.std.specs.Cmp.{IsTotalOrder, eq_by_cmp_equiv}
use Rattle.std.specs.Cmp.Lexicographic.{on_texts}
use Rattle.std.specs.FinMap as map
use Rattle.std.proofs.lemmas.Grind.{common_steps}
use Rattle.event_callbacks.specs.declared.operations.OpId.{OpId}
use Rattle.event_callbacks.specs.declared.operations.OpId.TheVariants.{Byte, Write}
use Rattle.event_callbacks.specs.Operations.{spelling_of, name_cmp, same_name}

name_from_spelling : (i j : OpId) → spelling_of i ≡ spelling_of j → i ≡ j
name_from_spelling (Byte port number) (Byte other_port other) e = cc
name_from_spelling (Byte port number) (Write other) e = cc
name_from_spelling (Write number) (Byte other_port other) e = cc
name_from_spelling (Write number) (Write other) e = cc

pub name_cmp_total : IsTotalOrder name_cmp
name_cmp_total = on_texts spelling_of

-- only equal names tie
pub name_cmp-IsAntisymmetric : map.IsAntisymmetric name_cmp
name_cmp-IsAntisymmetric i j tie =
    name_from_spelling i j (map.slice_cmp-IsAntisymmetric map.nat_cmp-IsAntisymmetric (spelling_of i) (spelling_of j) tie)

-- the map's test of two names
abbrev pub same : OpId → OpId → Bool
same i j = eq_by_cmp name_cmp i j

pub same_from_equal : (i j : OpId) → i ≡ j → same i j ≡ true
same_from_equal i j e = subst (λ k. same i k ≡ true) e ((eq_by_cmp_equiv name_cmp_total).refl i)

tie_from_test : (r : Ordering) → is_eq r ≡ true → r ≡ Equal
tie_from_test Less e = cc
tie_from_test Equal e = refl
tie_from_test Greater e = cc

-- two names are equal or not
pub name_cases : (i j : OpId) → (i ≡ j) ⊎ (i ≢ j)
name_cases i j =
    elim (same i j) as (λ b. same i j ≡ b → (i ≡ j) ⊎ (i ≢ j)) [
      | true ↦ λ e. inl (name_cmp-IsAntisymmetric i j (tie_from_test (name_cmp i j) e))
      | false ↦ λ e. inr (λ p. let t = same_from_equal i j p in cc)
    ] refl

pub same_from_different : (i j : OpId) → i ≢ j → same i j ≡ false
same_from_different i j differs =
    elim (same i j) as (λ b. same i j ≡ b → b ≡ false) [
      | true ↦ λ e. absurd (differs (name_cmp-IsAntisymmetric i j (tie_from_test (name_cmp i j) e)))
      | false ↦ λ e. refl
    ] refl

-- ---- the test by kinds and numbers

pub equal_from_same : (i j : OpId) → same_name i j ≡ true → i ≡ j
equal_from_same (Byte port number) (Byte other_port other) e =
    let same_port : port ≡ other_port = grind (arith, common_steps) in
    let same_number : number ≡ other = grind (arith, common_steps) in
    cc
equal_from_same (Byte port number) (Write other) e = cc
equal_from_same (Write number) (Byte other_port other) e = cc
equal_from_same (Write number) (Write other) e =
    let same_number : number ≡ other = grind (arith, common_steps) in
    cc

pub same_name-itself : (i : OpId) → same_name i i ≡ true
same_name-itself (Byte port number) = grind (arith, common_steps)
same_name-itself (Write number) = grind (arith, common_steps)

pub same_name-different : (i j : OpId) → i ≢ j → same_name i j ≡ false
same_name-different i j differs =
    elim (same_name i j) as (λ b. same_name i j ≡ b → b ≡ false) [
      | true ↦ λ e. absurd (differs (equal_from_same i j e))
      | false ↦ λ e. refl
    ] refl
