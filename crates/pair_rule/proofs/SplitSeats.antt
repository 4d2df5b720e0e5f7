-- A seat is split off another one.
use Rattle.std.proofs.Common.{◌≡◌, ◌≢◌, ℕ, zero, suc, Bool, true, false, List, [], ◌∷◌, ◌++◌, length, set, sym, refl, ap, ◌∙◌, subst, inl, inr, ◌⊎◌, ⊎_elim, length-set}
use mathlib.Core.Option as maybe
use mathlib.Core.Option.{some, some-injective, some-ne-none}
use mathlib.Core.Logic.{dite}
use native.Mathlib.Decide.{ℕ_discrete}
use lib.ListN.{get_elem?}
use Rattle.pair_rule.proofs.Words.{Core, Has, Primary, Rule, Same, SeatView, Splits, Who, at_last, at_longer, at_set, has, nobody, only, seat_index, set_else, without}
use Rattle.pair_rule.proofs.Parts.{has_set, one_seat, set_there}

at_end : {A : Type 0} (l : List A) (a b : A) (j : ℕ) → get_elem? (l ++ a ∷ []) j ≡ some b
    → (get_elem? l j ≡ some b) ⊎ ((j ≡ length l) × (a ≡ b))
at_end [] a b zero e = inr (refl, some-injective a b e)
at_end [] a b (suc j) e = absurd (some-ne-none b (sym e))
at_end (x ∷ xs) a b zero e = inl e
at_end (x ∷ xs) a b (suc j) e = ⊎_elim (λ t. inl t) (λ t. inr (ap suc t.0, t.1)) (at_end xs a b j e)

pub no_true : {X : Type 0} {o : maybe.Option Bool} → o ≡ some false → o ≡ some true → X
no_true {X} {o} e d = absurd (let q : false ≡ true = some-injective false true (sym e ∙ d) in cc)

pub nobody_has : (n : Who) → get_elem? nobody (seat_index n) ≡ some false
nobody_has Primary = refl
nobody_has _ = refl

-- one more view has not a seat's part
has_more : (views : List SeatView) (core : Core) (n : Who) (at : ℕ) (w : SeatView) → Has views core n at
    → get_elem? w.mine (seat_index n) ≡ some false → Has (views ++ w ∷ []) core n at
has_more views core n at w h lacks = record {
  here = (h.here.0, at_longer views (w ∷ []) at h.here.0 h.here.1, h.here.2);
  only = λ j x ex hx. ⊎_elim (λ (t : get_elem? views j ≡ some x). h.only j x t hx)
      (λ (t : (j ≡ length views) × (w ≡ x)). no_true lacks (subst (λ (z : SeatView). has z n) (sym t.1) hx))
      (at_end views w x j ex);
}

module _ (views : List SeatView) (core : Core) (at : Who → ℕ) (seats : (n : Who)
    → Has views core n (at n)) (id : ℕ) (v : SeatView) (s : Who) (here : get_elem? views id ≡ some v) (mine : has v s) where
  abbrev views' : List SeatView
  views' = set views id (without s v) ++ only s v ∷ []

  lacks : get_elem? (without s v).mine (seat_index s) ≡ some false
  lacks = set_there v.mine (seat_index s) true false mine

  split_own : Has views' core s (length views)
  split_own = let e = (seats s).only id v here mine in record {
    here = (
      only s v,
      at_last (set views id (without s v)) (only s v) (length views) (length-set views id (without s v)),
      set_there nobody (seat_index s) false true (nobody_has s),
    );
    only = λ j x ex hx. ⊎_elim
        (λ (t : get_elem? (set views id (without s v)) j ≡ some x). ⊎_elim
        (λ (u : (j ≡ id) × (without s v ≡ x)). no_true
        (subst (λ (z : SeatView). get_elem? z.mine (seat_index s) ≡ some false) u.1 lacks) hx)
        (λ (u : (j ≢ id) × (get_elem? views j ≡ some x)). absurd (u.0 (((seats s).only j x u.1 hx).0 ∙ sym e.0)))
        (at_set views id j (without s v) x t))
        (λ (t : (j ≡ length (set views id (without s v))) × (only s v ≡ x)).
        (t.0 ∙ length-set views id (without s v), subst (λ (z : SeatView). Same s z.core core) t.1 e.1))
        (at_end (set views id (without s v)) (only s v) x j ex);
  }

  split_other : (n : Who) → (seat_index n ≢ seat_index s) → Has views' core n (at n)
  split_other n ne = has_more (set views id (without s v)) core n (at n) (only s v)
      (has_set views core core n (at n) id v (without s v) (seats n) here
      (set_else v.mine (seat_index s) (seat_index n) false ne) (λ had e. e) (λ x off e. e))
      (set_else nobody (seat_index s) (seat_index n) true ne ∙ nobody_has n)

  split_seat : (n : Who) → (k : ℕ) × Has views' core n k
  split_seat n = dite (ℕ_discrete (seat_index n) (seat_index s))
      (λ e. (length views, subst (λ t. Has views' core t (length views)) (sym (one_seat n s e)) split_own))
      (λ ne. (at n, split_other n ne))

pub splits : (g id : ℕ) (v : SeatView) (s : Who) → has v s → Splits (Rule g) id v (without s v) (only s v)
splits g id v s mine st r here = record {
  core = r.core;
  boxes = r.boxes;
  words = r.words;
  at = λ n. (split_seat st.views r.core r.at r.seats id v s here mine n).0;
  seats = λ n. (split_seat st.views r.core r.at r.seats id v s here mine n).1;
  facts = r.facts;
}
