-- When a worker asks to go on alone.
use Rattle.std.specs.Prelude.{◌≡◌, ◌≢◌, ◌⊎◌, ◌↔◌, ℕ, Option, Some, IsSome}

-- who has not asked asks in the turn at which it is planned to, and in no other
abbrev pub AsksAt : Option ℕ → ℕ → ℕ → ℕ → Type 0
AsksAt contests_at number before after = before ≡ 0 → ((after ≢ 0) ↔ (contests_at ≡ Some number))

-- a seat whose view names a winner has asked, so it was planned to ask at a turn
abbrev pub HasAsked : Option ℕ → ℕ → Type 0
HasAsked contests_at winner = (winner ≡ 0) ⊎ IsSome contests_at
