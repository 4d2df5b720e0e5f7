-- A test and a filter of a mapped list.
use Rattle.std.proofs.Common.{◌≡◌, Bool, true, false, List, [], ◌∷◌, refl, ap, map, cond, ◌||◌}
use Rattle.std.specs.List.{filter, list_any}

-- an element of the mapped list passes the test exactly if one of the list passes it when it is mapped
pub list_any-map : {X Y : Type 0} (p : Y → Bool) (f : X → Y) (xs : List X)
    → list_any p (map f xs) ≡ list_any (λ x. p (f x)) xs
list_any-map p f [] = refl
list_any-map p f (x ∷ xs) = ap (λ b. p (f x) || b) (list_any-map p f xs)

kept : {X Y : Type 0} (b : Bool) (f : X → Y) (x : X) (xs : List X) (ys : List Y)
    → map f xs ≡ ys → map f (cond b (x ∷ xs) xs) ≡ cond b (f x ∷ ys) ys
kept true f x xs ys e = ap (λ l. f x ∷ l) e
kept false f x xs ys e = e

pub map-filter : {X Y : Type 0} (p : Y → Bool) (f : X → Y) (xs : List X)
    → map f (filter (λ x. p (f x)) xs) ≡ filter p (map f xs)
map-filter p f [] = refl
map-filter p f (x ∷ xs) = kept (p (f x)) f x (filter (λ x. p (f x)) xs) (filter p (map f xs)) (map-filter p f xs)
