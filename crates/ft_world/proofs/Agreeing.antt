-- Two lists agree if at each place both have an element, or neither. They still agree after one element of each is
-- replaced at one place, and after one more is appended to each.
use Rattle.std.proofs.Common.{◌≡◌, [], ◌∷◌, ◌++◌, None, Some, List, refl, subst, suc, zero, ℕ}
use Rattle.std.specs.Prelude.{Option, slice_get, slice_set}
use Rattle.ft_world.proofs.Words.{Agree}

pub agree-set : {A B : Type 0} (P : A → B → Type 0) (xs : List A) (ys : List B) (k : ℕ) (a : A) (b : B) → P a b →
    ((n : ℕ) → Agree P (slice_get xs n) (slice_get ys n)) →
    (n : ℕ) → Agree P (slice_get (slice_set xs k a) n) (slice_get (slice_set ys k b) n)
agree-set P [] [] k a b p h n = tt
agree-set P [] (y ∷ ys) k a b p h n = absurd (h 0)
agree-set P (x ∷ xs) [] k a b p h n = absurd (h 0)
agree-set P (x ∷ xs) (y ∷ ys) zero a b p h zero = p
agree-set P (x ∷ xs) (y ∷ ys) zero a b p h (suc n) = h (suc n)
agree-set P (x ∷ xs) (y ∷ ys) (suc k) a b p h zero = h zero
agree-set P (x ∷ xs) (y ∷ ys) (suc k) a b p h (suc n) = agree-set P xs ys k a b p (λ m. h (suc m)) n

pub agree-push : {A B : Type 0} (P : A → B → Type 0) (xs : List A) (ys : List B) (a : A) (b : B) → P a b →
    ((n : ℕ) → Agree P (slice_get xs n) (slice_get ys n)) →
    (n : ℕ) → Agree P (slice_get (xs ++ a ∷ []) n) (slice_get (ys ++ b ∷ []) n)
agree-push P [] [] a b p h zero = p
agree-push P [] [] a b p h (suc n) = tt
agree-push P [] (y ∷ ys) a b p h n = absurd (h 0)
agree-push P (x ∷ xs) [] a b p h n = absurd (h 0)
agree-push P (x ∷ xs) (y ∷ ys) a b p h zero = h zero
agree-push P (x ∷ xs) (y ∷ ys) a b p h (suc n) = agree-push P xs ys a b p (λ m. h (suc m)) n

-- what holds of both at a place where both have something
pub agree-both : {A B : Type 0} (P : A → B → Type 0) (o : Option A) (q : Option B) (a : A) (b : B) → o ≡ Some a →
    q ≡ Some b → Agree P o q → P a b
agree-both P o q a b e f h = subst (λ z. Agree P (Some a) z) f (subst (λ z. Agree P z q) e h)

-- the element of the other list at a place
pub agree-other : {A B : Type 0} (P : A → B → Type 0) (o : Option A) (q : Option B) (a : A) → o ≡ Some a →
    Agree P o q → (b : B) × (q ≡ Some b) × P a b
agree-other P o None a e h = absurd (subst (λ z. Agree P z None) e h)
agree-other P o (Some b) a e h = (b, refl, subst (λ z. Agree P z (Some b)) e h)
