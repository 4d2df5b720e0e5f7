-- The elements of lists, also of those that grow by one.
use Rattle.std.proofs.Common.{◌≡◌, ℕ, List, [], ◌∷◌, ◌++◌, drop, get_or, sym, refl, ap, subst, ◌⊎◌, inl, inr, ⊎_elim, Option, Some, None}
use Rattle.pair_rule.proofs.Words.{AllAre, Among, DiskAnswer, SectorRead, WhereSome}
use Rattle.pair_rule.specs.declared.payload.DiskAnswer.TheVariants as answer

module _ {A : Type 0} where
  pub same_head : (x y : A) (xs ys : List A) → x ∷ xs ≡ y ∷ ys → x ≡ y
  same_head x y xs ys e = ap (λ l. get_or l 0 x) e

  pub same_tail : (x y : A) (xs ys : List A) → x ∷ xs ≡ y ∷ ys → xs ≡ ys
  same_tail x y xs ys e = ap (λ l. drop 1 l) e

  pub among_last : (x : A) (xs : List A) → Among x (xs ++ x ∷ [])
  among_last x [] = inl refl
  among_last x (y ∷ xs) = inr (among_last x xs)

  pub all_map : (xs : List A) (P Q : A → Type 0) → ((x : A) → P x → Q x) → AllAre xs P → AllAre xs Q
  all_map [] P Q f a = a
  all_map (x ∷ xs) P Q f a = (f x a.0, all_map xs P Q f a.1)

  pub all_more : (xs : List A) (x : A) (P : A → Type 0) → AllAre xs P → P x → AllAre (xs ++ x ∷ []) P
  all_more [] x P a p = (p, tt)
  all_more (y ∷ xs) x P a p = (a.0, all_more xs x P a.1 p)

  pub if_map : (x : Option A) (P Q : A → Type 0) → ((x : A) → P x → Q x) → WhereSome x P → WhereSome x Q
  if_map None P Q f i = i
  if_map (Some x) P Q f i = f x i

  pub among_either : (x y : A) (xs : List A) → Among x (xs ++ y ∷ []) → Among x xs ⊎ (x ≡ y)
  among_either x y [] a = ⊎_elim (λ e. inr e) (λ i. absurd i) a
  among_either x y (z ∷ xs) a =
      ⊎_elim (λ e. inl (inl e)) (λ i. ⊎_elim (λ j. inl (inr j)) (λ e. inr e) (among_either x y xs i)) a

  pub all_in : (P : A → Type 0) (xs : List A) (x : A) → AllAre xs P → Among x xs → P x
  all_in P [] x all i = absurd i
  all_in P (y ∷ xs) x all i =
      ⊎_elim (λ (e : x ≡ y). subst P (sym e) all.0) (λ (m : Among x xs). all_in P xs x all.1 m) i

-- of the answers with one of a write more, those of reads are as before
pub no_read : (r : SectorRead) (n : ℕ) (given : List DiskAnswer) → Among (answer.Read r) (given ++ answer.Written n ∷ [])
    → Among (answer.Read r) given
no_read r n [] (inl e) = absurd (let c : answer.Read r ≡ answer.Written n = e in cc)
no_read r n [] (inr a) = a
no_read r n (x ∷ given) (inl e) = inl e
no_read r n (x ∷ given) (inr a) = inr (no_read r n given a)
