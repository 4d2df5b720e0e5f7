-- The bytes after a mark: what is appended to all bytes is appended to those, and a mark may move past some of them.
use Rattle.std.proofs.Common.{◌≡◌, ℕ, zero, suc, ◌+◌, ◌≤◌, List, [], ◌∷◌, ◌++◌, length, drop, refl, sym, ◌∙◌, arith}

pub drop_longer : (n : ℕ) (xs ys : List ℕ) → n ≤ length xs → drop n (xs ++ ys) ≡ drop n xs ++ ys
drop_longer zero xs ys h = refl
drop_longer (suc n) [] ys h = absurd (omega arith)
drop_longer (suc n) (x ∷ xs) ys h = let k : n ≤ length xs = omega arith in drop_longer n xs ys k

nothing : (n : ℕ) → drop {A = ℕ} n [] ≡ []
nothing zero = refl
nothing (suc n) = refl

pub drop_twice : (n m : ℕ) (xs : List ℕ) → drop (n + m) xs ≡ drop m (drop n xs)
drop_twice zero m xs = let e : 0 + m ≡ m = omega arith in rw e refl
drop_twice (suc n) m [] = nothing (suc n + m) ∙ sym (nothing m)
drop_twice (suc n) m (x ∷ xs) = let e : suc n + m ≡ suc (n + m) = omega arith in rw e (drop_twice n m xs)
