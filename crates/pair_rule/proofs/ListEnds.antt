-- The end of a list that grows by one element, and what follows from equations of numbers, names and tests.
use Rattle.std.proofs.Common.{◌≡◌, ℕ, zero, suc, ◌<◌, false, List, [], ◌∷◌, ◌++◌, length, refl, ap, ◌⊎◌, inl, inr, ⊎_elim, arith, Option, Some, None, slice_get, nat_le}
use Rattle.pair_rule.proofs.Words.{Machine, Written, top}
use Rattle.guest_lockstep.specs.declared.timed.Bare.{Bare}
use Rattle.i8080_words.specs.declared.limits.TheConstants.{GREATEST_NUMBER}

pub get_last : {A : Type 0} (xs : List A) (x : A) → slice_get (xs ++ x ∷ []) (length xs) ≡ Some x
get_last [] x = refl
get_last (y ∷ xs) x = get_last xs x

pub get_end : {A : Type 0} (xs : List A) (x y : A) (i : ℕ) → slice_get (xs ++ x ∷ []) i ≡ Some y
    → (slice_get xs i ≡ Some y) ⊎ ((i ≡ length xs) × (x ≡ y))
get_end [] x y zero e = inr (refl, is_some e)
  where
    some_or : {A : Type 0} → A → Option A → A
    some_or d None = d
    some_or d (Some a) = a

    is_some : {A : Type 0} {a b : A} → Some a ≡ Some b → a ≡ b
    is_some {A} {a} {b} e = ap (some_or a) e
get_end [] x y (suc i) e = absurd (let c : None ≡ Some y = e in cc)
get_end (z ∷ xs) x y zero e = inl e
get_end (z ∷ xs) x y (suc i) e = ⊎_elim (λ t. inl t) (λ t. inr (ap suc t.0, t.1)) (get_end xs x y i e)

pub too_low : (a b : ℕ) → a < b → nat_le b a ≡ false
too_low a b lt = grind arith

number_in : Bare → ℕ
number_in (Written n) = n
number_in _ = 0

pub same_number : (m n : ℕ) → Written m ≡ Written n → m ≡ n
unfolding number_in
same_number m n e = ap number_in e

-- there is room for one more key
pub key_room : {S : Type 0} (M : Machine S) (n : ℕ) → n < GREATEST_NUMBER → n < top
unfolding top
key_room M n room = room
