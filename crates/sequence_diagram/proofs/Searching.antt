-- What was searched, one place after another, and what is not among it.
use Rattle.std.proofs.Common.{◌≡◌, ℕ, ◌+◌, ◌<◌, ◌≤◌, arith, subst, inl, inr}
use Rattle.std.proofs.lemmas.Bool.{cases_eq}

-- one place more at the end
pub up_to_more : (P : ℕ → Type 0) (from to : ℕ) → ((k : ℕ) → from ≤ k → k < to → P k → ⊥) → (P to → ⊥)
    → (k : ℕ) → from ≤ k → k < to + 1 → P k → ⊥
up_to_more P from to below here k low high p =
    elim (cases_eq k to) [ inl same ↦ here (subst P same p) | inr other ↦ below k low (omega arith) p ]

-- one place more at the beginning
pub down_to_more : (P : ℕ → Type 0) (from before to : ℕ) → from ≡ before + 1 → ((k : ℕ) → from ≤ k → k < to → P k → ⊥)
    → (P before → ⊥) → (k : ℕ) → before ≤ k → k < to → P k → ⊥
down_to_more P from before to next above here k low high p =
    elim (cases_eq k before) [ inl same ↦ here (subst P same p) | inr other ↦ above k (omega arith) high p ]
