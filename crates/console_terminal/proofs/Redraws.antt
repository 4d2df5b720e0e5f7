-- With how many equal bytes two lists begin.
use Rattle.std.proofs.Common.{ℕ, ◌≡◌, ◌<◌, List, [], ◌∷◌, arith, length, refl}
use Rattle.console_terminal.specs.Completing.{common}

-- none, if one of them has none
pub common_ends : (ones others : List ℕ) → length others < 1 → common ones others ≡ 0
common_ends [] others low = refl
common_ends (one ∷ ones) [] low = refl
common_ends (one ∷ ones) (other ∷ others) low = absurd (omega (arith, low))
