-- The seats of a new table.
use Rattle.std.proofs.Common.{◌≡◌, ℕ, ◌+◌, true, false, Bool, List, ◌∷◌, sym, refl, ap, ◌∙◌, subst, arith, length-set, None}
use mathlib.Core.Option.{some}
use lib.ListN.{get_elem?}
use Rattle.atomic_table.specs.Seated.{TableId}
use Rattle.pair_rule.proofs.Words.{Allows, Core, Knowledge, Mine, Opened, Primary, Rule, SeatView, Who, core_of, has, nobody, numbers, seat_index, takes_first_slot, with_core, with_slot, zeros}
use Rattle.pair_rule.specs.Seats.{Holds, IsNew}
use Rattle.pair_rule.proofs.Parts.{few_seats, set_there}
use Rattle.pair_rule.proofs.SplitSeats.{nobody_has}
use Rattle.pair_rule.proofs.FirstSlots.{first_slot_allowed}

-- the slot of a seat at the start
home : (s : Who) (k : Knowledge) → get_elem? (core_of k).hands (seat_index s) ≡ some (6 + seat_index s)
home Primary k = refl
home _ k = refl

-- it takes that slot, and then it has what a seat holds
module _ (s : Who) (k : Knowledge) (table id : TableId) (me : Mine) (new : IsNew s k table id me) (h : ℕ)
    (at : h ≡ 6 + seat_index s) where
  hand : get_elem? me.0.core.hands (seat_index s) ≡ some h
  hand = ap (λ (c : Core). get_elem? c.hands (seat_index s)) new.core ∙ home s k ∙ ap (λ n. some n) (sym at)

  mine : has me.0 s
  mine = ap (λ (l : List Bool). get_elem? l (seat_index s)) new.single ∙ set_there nobody (seat_index s) false true (nobody_has s)

  pub takes_slot : (g n seat : ℕ) → Allows (Rule g) n seat me 0 (λ x. x) (takes_first_slot s me)
  takes_slot g n seat = first_slot_allowed g n seat me s h mine hand
      (ap (λ (c : Core). get_elem? c.has_slot (seat_index s)) new.core ∙ nobody_has s)

  pub opened : (me' : Mine) (r : ℕ) (id' : TableId) → id' ≡ id → takes_first_slot s me r me' → Opened s k table id' me' h zeros zeros
  opened me' r id' same told =
      let whole = told.1 ∙ ap (λ (c : Core). with_core me.0 (with_slot s true c)) new.core in record {
        same = same ∙ new.same;
        keeps = record {
          fills_are = ap (λ (z : SeatView). numbers z.core.fills) (sym whole);
          empties_are = ap (λ (z : SeatView). numbers z.core.empties) (sym whole);
          single = ap (λ (z : SeatView). z.mine) whole ∙ new.single;
          holds = subst (λ (m : Mine). Holds s m h) (λ i. (sym whole i, sym (told.0 h hand ∙ ap (λ c. (h, None) ∷ c) new.bare) i))
              record {
                mine = mine;
                hand = home s k ∙ ap (λ n. some n) (sym at);
                has_slot = set_there (core_of k).has_slot (seat_index s) false true (nobody_has s);
                one = (None, refl);
                small = (let few = few_seats s in omega (arith, few, at));
                sized = record {
                  hands = refl;
                  has_slot = length-set (core_of k).has_slot (seat_index s) true;
                  fills = refl;
                  empties = refl;
                };
              };
        };
        core = ap (λ (z : SeatView). z.core) whole;
      }
