-- A swap of the slot in hand with the one in a box.
use Rattle.std.proofs.Common.{◌≡◌, ◌≢◌, ℕ, zero, suc, ◌+◌, ◌/◌, ◌%◌, ◌<◌, Bool, true, false, List, [], ◌∷◌, length, set, get_or, sym, refl, ap, ◌∙◌, subst, arith, length-set, Option, Some, eq-eqb, ne_eqb}
use mathlib.Core.Option.{some, none, some-ne-none, some-injective}
use lib.ListN.{get_elem?}
use Rattle.pair_rule.proofs.Words.{Boxed, Homes, Payload, Side, empty_word, filler_met, full_word, is_full, number_of, set_else, set_here, side, slot_of}

pub slot_full : (n h : ℕ) → h < 16 → slot_of (full_word n h) ≡ h
slot_full n h small = omega arith

pub slot_empty : (n h : ℕ) → h < 16 → slot_of (empty_word n h) ≡ h
slot_empty n h small = omega arith

number_full : (n h : ℕ) → h < 16 → number_of (full_word n h) ≡ n
number_full n h small = omega arith

number_empty : (n h : ℕ) → h < 16 → number_of (empty_word n h) ≡ n
number_empty n h small = omega arith

full_is : (n h : ℕ) → h < 16 → is_full (full_word n h) ≡ true
full_is n h small = let e : (full_word n h / 16) % 2 ≡ 1 = omega arith in eq-eqb _ _ e

empty_is : (n h : ℕ) → h < 16 → is_full (empty_word n h) ≡ false
empty_is n h small = let e : (empty_word n h / 16) % 2 ≡ 0 = omega arith in ne_eqb _ _ (λ z. omega arith)

abbrev pub swapped : Homes → ℕ → Option Payload → ℕ → Homes
swapped homes h x k = set (set homes h (some x)) k none

module _ (homes : Homes) (h : ℕ) (x : Option Payload) (k : ℕ) (apart : k ≢ h) (near : h < length homes) where
  pub found : (y : Option Payload) → get_elem? homes k ≡ some (some y) → get_elem? (set homes h (some x)) k ≡ some (some y)
  found y at = set_else homes h k (some x) apart ∙ at

  pub given : get_elem? (swapped homes h x k) h ≡ some (some x)
  given = set_else (set homes h (some x)) k h none (λ e. apart (sym e)) ∙ set_here homes h (some x) near

  pub elsewhere : (j : ℕ) → j ≢ h → j ≢ k → get_elem? (swapped homes h x k) j ≡ get_elem? homes j
  elsewhere j a b = set_else (set homes h (some x)) k j none b ∙ set_else homes h j (some x) a

  pub as_deep : length (swapped homes h x k) ≡ length homes
  as_deep = length-set (set homes h (some x)) k none ∙ length-set homes h (some x)

pub box_stays : (word : ℕ) (homes homes' : Homes) (f e : Side) → get_elem? homes' (slot_of word) ≡ get_elem? homes (slot_of word)
    → (b : Bool) → Boxed word homes f e b → Boxed word homes' f e b
box_stays word homes homes' f e same true box = (box.0, box.1, box.2, (box.3.0, box.3.1, same ∙ box.3.2))
box_stays word homes homes' f e same false box = (box.0, box.1, (box.2.0, same ∙ box.2.1))

pub within : {A : Type 0} (l : List A) (j : ℕ) (x : A) → get_elem? l j ≡ some x → j < length l
within [] j x e = absurd (some-ne-none x (sym e))
within (y ∷ ys) zero x e = omega arith
within (y ∷ ys) (suc j) x e = let r = within ys j x e in omega arith

pub fills : (word : ℕ) (homes homes' : Homes) (f e : Side) (b : Bool) (h : ℕ) (q : Payload) → h < 16
    → get_elem? homes' h ≡ some (some (Some q)) → Boxed word homes f e b
    → Boxed (full_word (f.number + 1) h) homes' (side (f.number + 1) (filler_met b word f.met) (Some q)) e
    (is_full (full_word (f.number + 1) h))
fills word homes homes' f e true h q small at box =
    subst (Boxed (full_word (f.number + 1) h) homes' (side (f.number + 1) f.met (Some q)) e)
    (sym (full_is (f.number + 1) h small)) (
      number_full (f.number + 1) h small,
      (let l = box.1 in omega arith),
      box.2,
      (q, refl, ap (get_elem? homes') (slot_full (f.number + 1) h small) ∙ at),
    )
fills word homes homes' f e false h q small at box =
    subst (Boxed (full_word (f.number + 1) h) homes' (side (f.number + 1) (number_of word) (Some q)) e)
    (sym (full_is (f.number + 1) h small)) (
      number_full (f.number + 1) h small,
      (let l = box.1 in omega arith),
      box.0,
      (q, refl, ap (get_elem? homes') (slot_full (f.number + 1) h small) ∙ at),
    )

-- a full box is emptied, and an empty one is found so
pub empties : (word : ℕ) (homes homes' : Homes) (f e : Side) (h : ℕ) (x last : Option Payload) → h < 16
    → get_elem? homes' h ≡ some (some x) → Boxed word homes f e true
    → Boxed (empty_word (e.number + 1) h) homes' f (side (e.number + 1) (number_of word) last)
    (is_full (empty_word (e.number + 1) h))
empties word homes homes' f e h x last small at box =
    subst (Boxed (empty_word (e.number + 1) h) homes' f (side (e.number + 1) (number_of word) last))
    (sym (empty_is (e.number + 1) h small))
    (number_empty (e.number + 1) h small, box.0, (x, ap (get_elem? homes') (slot_empty (e.number + 1) h small) ∙ at))

pub finds_empty : (word : ℕ) (homes homes' : Homes) (f e : Side) (h : ℕ) (x last : Option Payload) → h < 16
    → get_elem? homes' h ≡ some (some x) → Boxed word homes f e false
    → Boxed (empty_word (e.number + 1) h) homes' f (side (e.number + 1) e.met last) (is_full (empty_word (e.number + 1) h))
finds_empty word homes homes' f e h x last small at box =
    subst (Boxed (empty_word (e.number + 1) h) homes' f (side (e.number + 1) e.met last)) (sym (empty_is (e.number + 1) h small))
    (number_empty (e.number + 1) h small, box.1, (x, ap (get_elem? homes') (slot_empty (e.number + 1) h small) ∙ at))

module _ {A : Type 0} where
  -- two lists are changed alike
  pub set_both : (l m : List A) (i k : ℕ) (x : A) → length l ≡ length m → get_elem? l k ≡ get_elem? m k
      → get_elem? (set l i x) k ≡ get_elem? (set m i x) k
  set_both [] [] i k x long same = same
  set_both [] (b ∷ m) i k x long same = absurd (omega arith)
  set_both (a ∷ l) [] i k x long same = absurd (omega arith)
  set_both (a ∷ l) (b ∷ m) zero zero x long same = refl
  set_both (a ∷ l) (b ∷ m) zero (suc k) x long same = same
  set_both (a ∷ l) (b ∷ m) (suc i) zero x long same = same
  set_both (a ∷ l) (b ∷ m) (suc i) (suc k) x long same = set_both l m i k x (omega arith) same

  pub or_of : (l : List A) (i : ℕ) (d x : A) → get_elem? l i ≡ some x → get_or l i d ≡ x
  or_of [] i d x e = absurd (some-ne-none x (sym e))
  or_of (a ∷ l) zero d x e = some-injective a x e
  or_of (a ∷ l) (suc i) d x e = or_of l i d x e

  pub at_or : (l : List A) (i : ℕ) (d : A) → i < length l → get_elem? l i ≡ some (get_or l i d)
  at_or [] i d near = absurd (omega arith)
  at_or (a ∷ l) zero d near = refl
  at_or (a ∷ l) (suc i) d near = at_or l i d (omega arith)

  pub or_both : (l m : List A) (i : ℕ) (d : A) → get_elem? l i ≡ get_elem? m i → get_or l i d ≡ get_or m i d
  or_both [] [] i d e = refl
  or_both [] (b ∷ m) zero d e = absurd (some-ne-none b (sym e))
  or_both [] (b ∷ m) (suc i) d e = or_both [] m i d e
  or_both (a ∷ l) [] zero d e = absurd (some-ne-none a e)
  or_both (a ∷ l) [] (suc i) d e = or_both l [] i d e
  or_both (a ∷ l) (b ∷ m) zero d e = some-injective a b e
  or_both (a ∷ l) (b ∷ m) (suc i) d e = or_both l m i d e
