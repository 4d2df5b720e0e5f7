-- Lists side by side, and the lengths of lists.
use Rattle.std.proofs.Common.{◌≡◌, suc, List, [], ◌∷◌, length, map, refl, ap, arith}
use Rattle.std.specs.List.{zip}

pub map_length : {A B : Type 0} (f : A → B) (xs : List A) → length (map f xs) ≡ length xs
map_length f [] = refl
map_length f (x ∷ xs) = ap suc (map_length f xs)

pub zip_first : {A B : Type 0} (xs : List A) (ys : List B) → length xs ≡ length ys
    → map (λ (p : A × B). p.0) (zip xs ys) ≡ xs
zip_first [] ys e = refl
zip_first (x ∷ xs) [] e = absurd (omega (arith, e))
zip_first (x ∷ xs) (y ∷ ys) e = ap (λ zs. x ∷ zs) (zip_first xs ys (omega (arith, e)))

pub zip_second : {A B : Type 0} (xs : List A) (ys : List B) → length xs ≡ length ys
    → map (λ (p : A × B). p.1) (zip xs ys) ≡ ys
zip_second [] [] e = refl
zip_second [] (y ∷ ys) e = absurd (omega (arith, e))
zip_second (x ∷ xs) [] e = absurd (omega (arith, e))
zip_second (x ∷ xs) (y ∷ ys) e = ap (λ zs. y ∷ zs) (zip_second xs ys (omega (arith, e)))

pub zip_length : {A B : Type 0} (xs : List A) (ys : List B) → length xs ≡ length ys
    → length (zip xs ys) ≡ length xs
zip_length [] ys e = refl
zip_length (x ∷ xs) [] e = absurd (omega (arith, e))
zip_length (x ∷ xs) (y ∷ ys) e = ap suc (zip_length xs ys (omega (arith, e)))

pub zip_again : {A B : Type 0} (ps : List (A × B)) → zip (map (λ (p : A × B). p.0) ps) (map (λ (p : A × B). p.1) ps) ≡ ps
zip_again [] = refl
zip_again (p ∷ ps) = ap (λ zs. p ∷ zs) (zip_again ps)
