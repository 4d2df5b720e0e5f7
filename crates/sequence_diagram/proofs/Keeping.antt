-- The newest write of a sector, when one event more has brought one.
use Rattle.std.proofs.Common.{◌≡◌, ◌⊎◌, ℕ, ◌+◌, ◌<◌, ◌≤◌, arith, inl, inr, List, Option, Some, None, subst, sym}
use Rattle.std.proofs.lemmas.Bool.{cases_eq}
use Rattle.disk_dcdd.specs.declared.address.SectorAddress.{SectorAddress}
use Rattle.sequence_diagram.specs.Keeping.{HasArrival, IsAtMost, IsNewest, IsOne}
use Rattle.sequence_diagram.specs.declared.kept.Arrival.{Arrival}
use Rattle.sequence_diagram.specs.declared.moment.Moment.{Moment}

at_most_more : (address : SectorAddress) (n m : ℕ) (found : Option Arrival) → n ≤ m → IsAtMost address n found → IsAtMost address m found
at_most_more address n m (Some arrival) le is = λ same. omega (arith, le, is same)
at_most_more address n m None le is = is

module _ (moments : List Moment) (place : ℕ) (address : SectorAddress) where
  pub newest_more : (newest newest' : ℕ) (found : Option Arrival) → IsNewest moments place address newest
      → HasArrival moments place found → newest ≤ newest' → IsAtMost address newest' found
      → (newest' ≡ newest) ⊎ IsOne address newest' found → IsNewest moments (place + 1) address newest'
  newest_more newest newest' found so_far here least counted one = record {
    none_newer = λ k before. elim (cases_eq k place) [
      | inl same ↦ (found, (subst (λ p. HasArrival moments p found) (sym same) here, counted))
      | inr other ↦ let was = so_far.none_newer k (omega arith) in
          (was.0, (was.1.0, at_most_more address newest newest' was.0 least was.1.1))
    ];
    is_one = λ some. elim one [
      | inl same ↦ let was = so_far.is_one (subst (λ n. 0 < n) same some) in
          (was.0, (omega (arith, was.1.0), (was.1.1.0, (was.1.1.1.0, subst (λ n. IsOne address n was.1.1.0) (sym same) was.1.1.1.1))))
      | inr it ↦ (place, (omega arith, (found, (here, it))))
    ];
  }
