-- What is known if reading did not fail. Reading goes from left to right and by tests: so the first thing was there,
-- each test was passed, and what is left of bytes is bytes.
use Rattle.std.proofs.Common.{◌≡◌, ℕ, suc, ◌+◌, Bool, true, false, cond, List, ◌∷◌, take, drop, Option, Some, None, refl, arith, inl, inr}
use Rattle.std.proofs.lemmas.Bool.{cases_lt}
use Rattle.std.proofs.lemmas.List.{length-take, get_or-drop, get_or-take, get_or_past}
pub use Rattle.std.proofs.lemmas.Option.{cond_some as admitted}
use Rattle.log_entry.specs.Numbers.{◌>>=◌, IsBytes}

-- ---- bytes

pub IsBytes-drop : (n : ℕ) (bytes : List ℕ) → IsBytes bytes → IsBytes (drop n bytes)
IsBytes-drop n bytes are_bytes i = rw get_or-drop (are_bytes (n + i))

pub IsBytes-take : (n : ℕ) (bytes : List ℕ) → IsBytes bytes → IsBytes (take n bytes)
IsBytes-take n bytes are_bytes i =
    elim (cases_lt i n) [
      | inl lt ↦ rw (get_or-take n bytes i 0 lt) (are_bytes i)
      | inr le ↦ rw (get_or_past (take n bytes) i 0 (omega (arith, length-take n bytes))) (omega arith)
    ]

pub IsBytes-rest : (byte : ℕ) (bytes : List ℕ) → IsBytes (byte ∷ bytes) → IsBytes bytes
IsBytes-rest byte bytes are_bytes i = are_bytes (suc i)

-- ---- steps and tests

-- the first thing, if the second was read
pub first_read : {A B : Type 0} (first : Option A) (second : A → Option B) (y : B)
    → (first >>= second) ≡ Some y → (x : A) × (first ≡ Some x) × (second x ≡ Some y)
first_read (Some x) second y e = (x, refl, e)
first_read None second y e = absurd cc

-- a test that refuses was not met
pub not_refused : {A : Type 0} (test : Bool) (o : Option A) (y : A)
    → cond test None o ≡ Some y → (test ≡ false) × (o ≡ Some y)
not_refused true o y e = absurd cc
not_refused false o y e = (refl, e)
