-- Lists: their elements and places, prefixes, and lists in which one place is set.
use Rattle.std.proofs.Common.{[], ◌++◌, ◌<◌, ◌∙◌, ◌∷◌, ◌≡◌, ◌≤◌, ◌⊎◌, List, Option, Some, ap, append-nil, append_assoc, arith, drop, inl, inr, length, length-append, refl, subst, suc, sym, take, zero, ℕ}
pub use Rattle.std.proofs.lemmas.Bool.{and_parts, cases_Bool as bool_cases, cases_eq as same_or_not}
pub use Rattle.std.proofs.lemmas.List.{map-append}
use Rattle.std.specs.Prelude.{slice_get, slice_set}
use Rattle.std.proofs.lemmas.Option.{same_Some}
use Rattle.pair_protocol.proofs.Words.{Among, IsPrefix}

pub same_some : {A : Type 0} (x y : A) (o : Option A) → o ≡ Some x → o ≡ Some y → x ≡ y
same_some x y o h k = same_Some x y (sym h ∙ k)

-- elements of lists, and prefixes

pub among-left : {A : Type 0} (x : A) (xs ys : List A) → Among x xs → Among x (xs ++ ys)
among-left x [] ys h = absurd h
among-left x (y ∷ xs) ys (inl h) = inl h
among-left x (y ∷ xs) ys (inr h) = inr (among-left x xs ys h)

pub among-right : {A : Type 0} (x : A) (xs ys : List A) → Among x ys → Among x (xs ++ ys)
among-right x [] ys h = h
among-right x (y ∷ xs) ys h = inr (among-right x xs ys h)

pub among-split : {A : Type 0} (x : A) (xs ys : List A) → Among x (xs ++ ys) → Among x xs ⊎ Among x ys
among-split x [] ys h = inr h
among-split x (y ∷ xs) ys (inl h) = inl (inl h)
among-split x (y ∷ xs) ys (inr h) = elim (among-split x xs ys h) [ inl k ↦ inl (inr k) | inr k ↦ inr k ]

pub prefix-refl : {A : Type 0} (xs : List A) → IsPrefix xs xs
prefix-refl xs = ([], append-nil xs)

pub prefix-append : {A : Type 0} (xs ys : List A) → IsPrefix xs (xs ++ ys)
prefix-append xs ys = (ys, refl)

pub prefix-trans : {A : Type 0} (xs ys zs : List A) → IsPrefix xs ys → IsPrefix ys zs → IsPrefix xs zs
prefix-trans xs ys zs h k = (h.0 ++ k.0, sym (append_assoc xs h.0 k.0) ∙ ap (λ vs. vs ++ k.0) h.1 ∙ k.1)

pub prefix-cons : {A : Type 0} (x : A) (xs ys : List A) → IsPrefix xs ys → IsPrefix (x ∷ xs) (x ∷ ys)
prefix-cons x xs ys h = (h.0, ap (λ zs. x ∷ zs) h.1)

pub prefix-under : {A : Type 0} (b xs ys : List A) → IsPrefix xs ys → IsPrefix (b ++ xs) (b ++ ys)
prefix-under b xs ys h = (h.0, append_assoc b xs h.0 ∙ ap (λ zs. b ++ zs) h.1)

pub prefix-length : {A : Type 0} (xs ys : List A) → IsPrefix xs ys → length xs ≤ length ys
prefix-length xs ys h = let e = length-append xs h.0 in let k = ap length h.1 in omega arith

pub among-prefix : {A : Type 0} (x : A) (xs ys : List A) → IsPrefix xs ys → Among x xs → Among x ys
among-prefix x xs ys h k = subst (λ zs. Among x zs) h.1 (among-left x xs h.0 k)

pub prefix-same : {A : Type 0} (xs ys : List A) → xs ≡ ys → IsPrefix xs ys
prefix-same xs ys e = ([], append-nil xs ∙ e)

pub get-longer : {A : Type 0} (xs ys : List A) (i : ℕ) (x : A) → slice_get xs i ≡ Some x →
    slice_get (xs ++ ys) i ≡ Some x
get-longer [] ys i x h = (cc)
get-longer (y ∷ xs) ys zero x h = h
get-longer (y ∷ xs) ys (suc i) x h = get-longer xs ys i x h

pub get-prefix : {A : Type 0} (xs ys : List A) (i : ℕ) (x : A) → IsPrefix xs ys → slice_get xs i ≡ Some x →
    slice_get ys i ≡ Some x
get-prefix xs ys i x p h = subst (λ zs. slice_get zs i ≡ Some x) p.1 (get-longer xs p.0 i x h)

-- an element that comes right after a prefix
pub get-after : {A : Type 0} (xs rest : List A) (x : A) → slice_get (xs ++ rest) (length xs) ≡ Some x →
    (more : List A) × (rest ≡ x ∷ more)
get-after [] [] x h = (cc)
get-after {A} [] (y ∷ rest) x h = let e : y ≡ x = (cc) in (rest, ap (λ (z : A). z ∷ rest) e)
get-after (y ∷ xs) rest x h = get-after xs rest x h

pub prefix-next : {A : Type 0} (xs ys : List A) (y : A) → IsPrefix xs ys → slice_get ys (length xs) ≡ Some y →
    IsPrefix (xs ++ y ∷ []) ys
prefix-next xs ys y p h =
    let r = get-after xs p.0 y (subst (λ zs. slice_get zs (length xs) ≡ Some y) (sym p.1) h) in
    (r.0, append_assoc xs (y ∷ []) r.0 ∙ ap (λ zs. xs ++ zs) (sym r.1) ∙ p.1)

-- an entry at an index below the length of a log is the same entry of the longer log
pub get-front : {A : Type 0} (xs ys : List A) (k : ℕ) (e : A) → k < length xs → slice_get (xs ++ ys) k ≡ Some e →
    slice_get xs k ≡ Some e
get-front [] ys k e l h = absurd (omega (arith, l))
get-front (x ∷ xs) ys zero e l h = h
get-front (x ∷ xs) ys (suc k) e l h = get-front xs ys k e (omega (arith, l)) h

pub le-cases : (a b : ℕ) → a ≤ b → (a < b) ⊎ (a ≡ b)
le-cases zero zero l = inr refl
le-cases zero (suc b) l = inl (omega arith)
le-cases (suc a) zero l = absurd (omega (arith, l))
le-cases (suc a) (suc b) l = elim (le-cases a b (omega (arith, l))) [
  | inl s ↦ inl (omega (arith, s))
  | inr s ↦ inr (ap suc s)
]

pub get_set : {A : Type 0} (xs : List A) (n : ℕ) (x y : A) → slice_get xs n ≡ Some x →
    slice_get (slice_set xs n y) n ≡ Some y
get_set [] n x y h = (cc)
get_set (z ∷ xs) zero x y h = refl
get_set (z ∷ xs) (suc n) x y h = get_set xs n x y h

pub get_set_cases : {A : Type 0} (xs : List A) (n m : ℕ) (y z : A) → slice_get (slice_set xs n y) m ≡ Some z →
    ((m ≡ n) × (z ≡ y)) ⊎ (slice_get xs m ≡ Some z)
get_set_cases [] n m y z h = inr h
get_set_cases (v ∷ xs) zero zero y z h = inl (refl, (cc))
get_set_cases (v ∷ xs) zero (suc m) y z h = inr h
get_set_cases (v ∷ xs) (suc n) zero y z h = inr h
get_set_cases (v ∷ xs) (suc n) (suc m) y z h = elim (get_set_cases xs n m y z h) [
  | inl k ↦ inl (ap suc k.0, k.1)
  | inr k ↦ inr k
]

pub get_set_other : {A : Type 0} (xs : List A) (n m : ℕ) (y : A) → (m ≡ n → ⊥) →
    slice_get (slice_set xs n y) m ≡ slice_get xs m
get_set_other [] n m y h = refl
get_set_other (v ∷ xs) zero zero y h = absurd (h refl)
get_set_other (v ∷ xs) zero (suc m) y h = refl
get_set_other (v ∷ xs) (suc n) zero y h = refl
get_set_other (v ∷ xs) (suc n) (suc m) y h = get_set_other xs n m y (λ e. h (ap suc e))

-- A new host.

pub get-last : {A : Type 0} (xs : List A) (s z : A) (m : ℕ) → slice_get (xs ++ s ∷ []) m ≡ Some z →
    (slice_get xs m ≡ Some z) ⊎ (z ≡ s)
get-last [] s z zero h = inr (cc)
get-last [] s z (suc m) h = (cc)
get-last (x ∷ xs) s z zero h = inl h
get-last (x ∷ xs) s z (suc m) h = get-last xs s z m h

pub among-get : {A : Type 0} (xs : List A) (k : ℕ) (x : A) → slice_get xs k ≡ Some x → Among x xs
among-get [] k x h = (cc)
among-get (y ∷ xs) zero x h = inl (cc)
among-get (y ∷ xs) (suc k) x h = inr (among-get xs k x h)

-- A byte of the trace is at its number's place in the whole.

pub get-at : {A : Type 0} (xs ys : List A) (x : A) → slice_get (xs ++ x ∷ ys) (length xs) ≡ Some x
get-at [] ys x = refl
get-at (y ∷ xs) ys x = get-at xs ys x

pub drop-at : {A : Type 0} (xs : List A) (k : ℕ) (x : A) → slice_get xs k ≡ Some x → drop k xs ≡ x ∷ drop (suc k) xs
drop-at [] k x h = (cc)
drop-at {A} (y ∷ xs) zero x h = let e : y ≡ x = (cc) in ap (λ (z : A). z ∷ xs) e
drop-at (y ∷ xs) (suc k) x h = drop-at xs k x h

pub take-at : {A : Type 0} (xs : List A) (k : ℕ) (x : A) → slice_get xs k ≡ Some x →
    take (suc k) xs ≡ take k xs ++ x ∷ []
take-at [] k x h = (cc)
take-at {A} (y ∷ xs) zero x h = let e : y ≡ x = (cc) in ap (λ (z : A). z ∷ []) e
take-at (y ∷ xs) (suc k) x h = ap (λ zs. y ∷ zs) (take-at xs k x h)

pub le-not : (a b : ℕ) → (a ≤ b → ⊥) → b < a
le-not zero b never = absurd (never (omega arith))
le-not (suc a) zero never = omega arith
le-not (suc a) (suc b) never = (let l = le-not a b (λ l. never (omega (arith, l))) in omega (arith, l))
