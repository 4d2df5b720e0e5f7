-- The parts that a joining node lacks.
use Rattle.std.proofs.Common.{◌≡◌, ℕ, zero, suc, Option, Some, None, List, [], ◌∷◌, replicate, refl, ap, arith}
use Rattle.std.specs.Prelude.{slice_get, slice_set}
use Rattle.pair_protocol.proofs.Words.{gathered, with_first}
use Rattle.pair_progress.specs.Renewal.{missing}

others_lack : (p : List ℕ) (o : Option (List (List ℕ))) → with_first p o ≡ None → o ≡ None
others_lack p None h = refl
others_lack p (Some ps) h = absurd (cc)

-- a place is open
pub open_place : (slots : List (Option (List ℕ))) → gathered slots ≡ None → (k : ℕ) × (slice_get slots k ≡ Some None)
open_place [] h = absurd (cc)
open_place (None ∷ slots) h = (0, refl)
open_place (Some p ∷ slots) h =
    let rest = open_place slots (others_lack p (gathered slots) h) in (suc rest.0, rest.1)

-- a part comes into it
pub one_fewer : (slots : List (Option (List ℕ))) (k : ℕ) (p : List ℕ) → slice_get slots k ≡ Some None →
    missing slots ≡ suc (missing (slice_set slots k (Some p)))
one_fewer [] k p h = absurd (cc)
one_fewer (None ∷ slots) zero p h = refl
one_fewer (Some q ∷ slots) zero p h = absurd (cc)
one_fewer (None ∷ slots) (suc k) p h = ap (λ n. suc n) (one_fewer slots k p h)
one_fewer (Some q ∷ slots) (suc k) p h = one_fewer slots k p h

pub some_missing : (slots : List (Option (List ℕ))) → gathered slots ≡ None → missing slots ≡ 0 → ⊥
some_missing [] h none = (cc)
some_missing (None ∷ slots) h none = omega (arith, none)
some_missing (Some p ∷ slots) h none = some_missing slots (others_lack p (gathered slots) h) none

pub all_missing : (k : ℕ) → missing (replicate k None) ≡ k
all_missing zero = refl
all_missing (suc k) = ap (λ n. suc n) (all_missing k)
