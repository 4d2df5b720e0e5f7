-- What is written is read again: for one value after another, for lists, and for a value that stands for another one.
use Rattle.std.proofs.Common.{◌≡◌, ℕ, suc, ◌<◌, ◌^◌, Bool, true, false, cond, ltb, List, [], ◌∷◌, ◌++◌, length, take, drop, Option, Some, None, refl, sym, ap, subst, ◌∙◌, append_assoc, append-nil, length-append, arith}
use Rattle.std.specs.Prelude.{All}
use Rattle.std.proofs.lemmas.Bool.{le-ltb}
use Rattle.std.proofs.lemmas.List.Elements.{All-head, All-tail}
use Rattle.log_entry.specs.Numbers.{◌>>=◌}
use Rattle.log_entry.proofs.NumberLaws.{number_again}
use Rattle.clone_state.proofs.Words.{Again, Codec, alone, both, by, bytes, bytes_at, counted, number, one, only, read_all, read_each, spell_each, times}

pub both_again : {A B : Type 0} (c : Codec A) (d : Codec B) (x : A) (y : B) → Again c x → Again d y
    → Again (both c d) (x, y)
unfolding both
both_again {A} {B} c d x y h k = record {
  again = λ rest.
      ap (both c d).read (append_assoc (c.spell x) (d.spell y) rest)
      ∙ ap (λ (o : Option (A × List ℕ)). o >>= λ r. d.read r.1 >>= λ q. Some ((r.0, q.0), q.1))
      (h.again (d.spell y ++ rest))
      ∙ ap (λ (o : Option (B × List ℕ)). o >>= λ q. Some ((x, q.0), q.1)) (k.again rest);
}

pub by_again : {A B : Type 0} (c : Codec A) (to : B → A) (from : A → B) (y : B) → Again c (to y) → from (to y) ≡ y
    → Again (by c to from) y
unfolding by
by_again {A} {B} c to from y h e = record {
  again = λ rest.
      ap (λ (o : Option (A × List ℕ)). o >>= λ r. Some (from r.0, r.1)) (h.again rest)
      ∙ ap (λ (z : B). Some (z, rest)) e;
}

pub only_again : {A : Type 0} (c : Codec A) (test : A → Bool) (x : A) → Again c x → test x ≡ true
    → Again (only c test) x
unfolding only
only_again {A} c test x h e = record {
  again = λ rest.
      ap (λ (o : Option (A × List ℕ)). o >>= λ r. cond (test r.0) (Some r) None) (h.again rest)
      ∙ ap (λ b. cond b (Some (x, rest)) None) e;
}

pub one_again : (n : ℕ) → Again one n
unfolding one
one_again n = record { again = λ rest. refl }

-- a value that one byte stands for
pub code_again : {A : Type 0} (test : ℕ → Bool) (code : A → ℕ) (value : ℕ → A)
    → ((x : A) → (test (code x) ≡ true) × (value (code x) ≡ x)) → (x : A) → Again (by (only one test) code value) x
code_again test code value back x =
    by_again (only one test) code value x (only_again one test (code x) (one_again (code x)) (back x).0) (back x).1

-- the front of two lists joined, and what is after it
pub take_front : {A : Type 0} (xs ys : List A) → take (length xs) (xs ++ ys) ≡ xs
take_front [] ys = refl
take_front (x ∷ xs) ys = ap (λ zs. x ∷ zs) (take_front xs ys)

pub drop_front : {A : Type 0} (xs ys : List A) → drop (length xs) (xs ++ ys) ≡ ys
drop_front [] ys = refl
drop_front (x ∷ xs) ys = drop_front xs ys

pub bytes_again : (n : ℕ) (xs : List ℕ) → length xs ≡ n → Again (bytes n) xs
unfolding bytes
bytes_again n xs e = record {
  again = λ rest.
      let all = length-append xs rest in
      let long : ltb (length (xs ++ rest)) (length xs) ≡ false = le-ltb _ _ (omega (arith, all)) in
      subst (λ k. bytes_at k (xs ++ rest) ≡ Some (xs, rest)) e
      (ap (λ b. cond b None (Some (take (length xs) (xs ++ rest), drop (length xs) (xs ++ rest)))) long
      ∙ ap (λ zs. Some (zs, drop (length xs) (xs ++ rest))) (take_front xs rest)
      ∙ ap (λ zs. Some (xs, zs)) (drop_front xs rest));
}

pub numbers_again : (n : ℕ) → n < 2 ^ 62 → Again number n
unfolding number
numbers_again n few = record { again = λ rest. number_again n rest few }

pub each_again : {A : Type 0} (c : Codec A) (xs : List A) → All (Again c) xs → (rest : List ℕ)
    → read_each c (length xs) (spell_each c xs ++ rest) ≡ Some (xs, rest)
each_again c [] all rest = refl
each_again {A} c (x ∷ xs) all rest =
    ap (read_each c (suc (length xs))) (append_assoc (c.spell x) (spell_each c xs) rest)
    ∙ ap (λ (o : Option (A × List ℕ)). o >>= λ r. read_each c (length xs) r.1 >>= λ q. Some (r.0 ∷ q.0, q.1))
    ((All-head (Again c) x xs all).again (spell_each c xs ++ rest))
    ∙ ap (λ (o : Option (List A × List ℕ)). o >>= λ q. Some (x ∷ q.0, q.1))
    (each_again c xs (All-tail (Again c) x xs all) rest)

pub times_again : {A : Type 0} (n : ℕ) (c : Codec A) (xs : List A) → length xs ≡ n → All (Again c) xs
    → Again (times n c) xs
unfolding times
times_again n c xs e all = record {
  again = λ rest.
      subst (λ k. read_each c k (spell_each c xs ++ rest) ≡ Some (xs, rest)) e (each_again c xs all rest);
}

pub counted_again : {A : Type 0} (c : Codec A) (xs : List A) → All (Again c) xs → Again (counted c) xs
unfolding counted
counted_again c xs all = record { again = λ rest. each_again c xs all rest }

-- what is written alone is read again
pub all_again : {A : Type 0} (c : Codec A) (x : A) → Again c x → read_all c (c.spell x) ≡ Some x
all_again c x h = ap alone (ap c.read (sym (append-nil (c.spell x))) ∙ h.again [])
