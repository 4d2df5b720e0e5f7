-- The table at the start meets the rule.
use Rattle.std.proofs.Common.{◌≡◌, ℕ, zero, suc, ◌+◌, ◌<◌, List, [], ◌∷◌, sym, refl, ◌∙◌, subst, inl, le_refl, arith, None, replicate}
use mathlib.Core.Option.{some, some-injective, some-ne-none}
use lib.ListN.{get_elem?}
use Rattle.atomic_table.specs.Table.{opening}
use Rattle.pair_rule.proofs.Words.{Boxed, Fits, Homes, Knowledge, Mailbox, Outbox, Primary, Rule, Same, SeatView, Side, Sized, Stands, WhereSome, Who, box_index, core_of, first_core, first_known, first_view, has, is_full, new_side, slot_of, view_of}
use Rattle.pair_rule.specs.Histories.{Opens}

abbrev homes0 : Homes
homes0 = some None ∷ some None ∷ some None ∷ some None ∷ some None ∷ some None ∷ some None ∷ some None ∷ some None ∷ some None
    ∷ some None ∷ []

abbrev boxes0 : List ℕ
boxes0 = 0 ∷ 1 ∷ 2 ∷ 3 ∷ 4 ∷ 5 ∷ []

slot0 : (j w : ℕ) → get_elem? boxes0 j ≡ some w → (slot_of w ≡ j) × (get_elem? homes0 (slot_of w) ≡ some (some None))
slot0 (suc (suc (suc (suc (suc (suc j)))))) w e = absurd (some-ne-none w (sym e))
slot0 j w e = subst (λ w. (slot_of w ≡ j) × (get_elem? homes0 (slot_of w) ≡ some (some None))) (some-injective _ w e) (refl, refl)

abbrev hands0 : List ℕ
hands0 = 6 ∷ 7 ∷ 8 ∷ 9 ∷ 10 ∷ []

hand0 : (s h : ℕ) → get_elem? hands0 s ≡ some h → (h ≡ 6 + s) × (h < 11) × (get_elem? homes0 h ≡ some (some None))
hand0 (suc (suc (suc (suc (suc s))))) h e = absurd (some-ne-none h (sym e))
hand0 s h e = subst (λ h. (h ≡ 6 + s) × (h < 11) × (get_elem? homes0 h ≡ some (some None))) (some-injective _ h e)
    (refl, omega arith, refl)

box0 : (b : Mailbox) → (get_elem? boxes0 (box_index b) ≡ some (box_index b)) ×
    (get_elem? (core_of (first_known 0)).fills (box_index b) ≡ some new_side) × Boxed (box_index b) homes0 new_side new_side
    (is_full (box_index b))
box0 Outbox = (refl, refl, (refl, refl, (None, refl)))
box0 _ = (refl, refl, (refl, refl, (None, refl)))

first_has : (k : Knowledge) (n : Who) → has (view_of k) n
first_has k Primary = refl
first_has k _ = refl

first_sized : (k : Knowledge) → Sized (core_of k)
first_sized k = record { hands = refl; has_slot = refl; fills = refl; empties = refl }

alone : (v w : SeatView) (j : ℕ) → get_elem? (v ∷ []) j ≡ some w → (j ≡ 0) × (v ≡ w)
alone v w zero e = (refl, some-injective v w e)
alone v w (suc j) e = absurd (some-ne-none w (sym e))

pub first_stands : (g : ℕ) → Stands (first_known g)
first_stands g = record {
  log = record { prefix = ([], refl); in_link = tt; rising = le_refl 0; behind = le_refl 0; once = inl refl };
  decided = record {
    few = omega arith;
    same = λ x y. absurd (x refl);
    primary_lost = λ e. absurd (omega arith);
    backup_lost = λ e. absurd (omega arith);
  };
  port0 = record { accepted = le_refl 0; in_hand = tt; arrived = tt };
  port1 = record { accepted = le_refl 0; in_hand = tt; arrived = tt };
  disk = record { taken = tt; puts = tt; answers = tt; replies = tt };
}

pub opens : (g : ℕ)
    → Rule g (opening (0 ∷ 0 ∷ 0 ∷ 0 ∷ 0 ∷ 0 ∷ 1 ∷ 2 ∷ 3 ∷ 4 ∷ 5 ∷ []) (replicate 11 None) (first_view g))
opens g = let v : SeatView = first_view g in let k : Knowledge = first_known g in record {
  core = first_core g;
  boxes = boxes0;
  words = refl;
  at = λ n. 0;
  seats = λ n. record {
    here = (v, refl, first_has k n);
    only = λ j w e hw. let a = alone v w j e in (
      a.0,
      subst (λ (z : SeatView). Same n z.core (first_core g)) a.1 record {
        sized = first_sized k;
        generation = refl;
        hand = refl;
        has_slot = refl;
        fills = λ b e. refl;
        empties = λ b e. refl;
        known = refl;
      },
    );
  };
  facts = record {
    generation = refl;
    sized = first_sized k;
    six = refl;
    laid = record {
      owner = λ slot. slot;
      deep = refl;
      paired = refl;
      boxes = λ j w e. (slot0 j w e).0;
      seats = λ s h e. let a = hand0 s h e in (a.0, a.1);
      full = λ j w e. (None, (slot0 j w e).1);
      bare = λ s h e lacks. (hand0 s h e).2;
    };
    boxed = λ b w f e aw af ae. let z = box0 b in
        subst (λ (x : ℕ × Side × Side). Boxed x.0 homes0 x.1 x.2 (is_full x.0))
        (λ i. (
          some-injective (box_index b) w (sym z.0 ∙ aw) i,
          some-injective new_side f (sym z.1 ∙ af) i,
          some-injective new_side e (sym z.1 ∙ ae) i,
        )) z.2;
    fitting = λ b f e. let z = box0 b in subst (λ (x : Side). WhereSome x.last (Fits b k))
        (some-injective new_side f (sym z.1 ∙ e)) tt;
    counted = record {
      asked_is = refl;
      taken = le_refl 0;
      given_is = refl;
      came = le_refl 0;
    };
    stands = first_stands g;
    ran = Opens g;
  };
}
