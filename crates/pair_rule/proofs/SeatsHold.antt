-- What a seat holds after a step.
use Rattle.std.proofs.Common.{◌≡◌, ◌≢◌, ◌↔◌, ℕ, zero, suc, ◌+◌, ◌<◌, ◌^◌, ◌&&◌, nat_lt, Bool, true, false, List, [], ◌∷◌, length, get_or, set, Some, None, sym, refl, ap, ◌∙◌, subst, arith, Option}
use mathlib.Core.Option.{some}
use lib.ListN.{get_elem?}
use Rattle.pair_rule.proofs.Words.{Answers, Bytes0, Bytes1, Core, Empties, Fills, HasSwapsLeft, Inbox, Knowledge, LeavesRoom, Mailbox, Mine, Outbox, Payload, Requests, SeatView, Side, Sized, Swapped, WasIn, Who, all_below, and_parts, box_index, emptied, emptier, filled, filler, found_empty, most_swaps, new_side, nobody, number_of, numbers, rest, seat_index, set_else, set_here, side, side_at, slot_of, with_core, with_known}
use Rattle.pair_rule.specs.Seats.{Holds, Keeps}
use Rattle.pair_rule.proofs.Slots.{or_of}
use Rattle.pair_rule.proofs.SplitSeats.{nobody_has}
use Rattle.pair_rule.proofs.Parts.{set_there, few_boxes, index_at, owned_fill, owned_empty, owned_find}
use Rattle.pair_rule.proofs.Filled.{local_fill, local_empty}
use Rattle.std.proofs.lemmas.Bool.{and_from}
use Rattle.std.proofs.lemmas.List.{get_or-map, map-set, length-map}

-- a value is put into the slot in hand
pub put_in : (s : Who) (me me' : Mine) (slot : ℕ) (y : Option Payload) → Holds s me slot → me' ≡ (me.0, (slot, y) ∷ rest me.1)
    → me' ≡ (me.0, (slot, y) ∷ [])
put_in s me me' slot y h e = e ∙ ap (λ (c : List (ℕ × Option Payload)). (me.0, (slot, y) ∷ rest c)) h.one.1

pub still_holds : (s : Who) (me me' : Mine) (slot : ℕ) (y : Option Payload) → Holds s me slot
    → me' ≡ (me.0, (slot, y) ∷ rest me.1) → Holds s me' slot
still_holds s me me' slot y h e = subst (λ (m : Mine). Holds s m slot) (sym (put_in s me me' slot y h e)) record {
  mine = h.mine;
  hand = h.hand;
  has_slot = h.has_slot;
  one = (y, refl);
  small = h.small;
  sized = h.sized;
}

-- what a seat with_known changes, and it holds what it held
pub after_know : (s : Who) (me me' : Mine) (slot : ℕ) (turn : Knowledge → Knowledge) → Holds s me slot → me'.1 ≡ me.1
    → me'.0 ≡ with_core me.0 (with_known turn me.0.core) → Holds s me' slot
after_know s me me' slot turn h same e = subst (λ (m : Mine). Holds s m slot) (λ i. (sym e i, sym same i)) record {
  mine = h.mine;
  hand = h.hand;
  has_slot = h.has_slot;
  one = h.one;
  small = h.small;
  sized = record { hands = h.sized.hands; has_slot = h.sized.has_slot; fills = h.sized.fills; empties = h.sized.empties };
}

-- ---- with the numbers of its swaps

pub still_keeps : (s : Who) (me me' : Mine) (slot : ℕ) (fills empties : List ℕ) (y : Option Payload)
    → Keeps s me slot fills empties → me' ≡ (me.0, (slot, y) ∷ rest me.1) → Keeps s me' slot fills empties
still_keeps s me me' slot fills empties y k e = let same : me'.0 ≡ me.0 = ap (λ (m : Mine). m.0) e in record {
  holds = still_holds s me me' slot y k.holds e;
  single = ap (λ (v : SeatView). v.mine) same ∙ k.single;
  fills_are = k.fills_are ∙ ap (λ (v : SeatView). numbers v.core.fills) (sym same);
  empties_are = k.empties_are ∙ ap (λ (v : SeatView). numbers v.core.empties) (sym same);
}

pub knows_keeps : (s : Who) (me me' : Mine) (slot : ℕ) (fills empties : List ℕ) (turn : Knowledge → Knowledge)
    → Keeps s me slot fills empties → me'.1 ≡ me.1 → me'.0 ≡ with_core me.0 (with_known turn me.0.core)
    → Keeps s me' slot fills empties
knows_keeps s me me' slot fills empties turn k same e = record {
  holds = after_know s me me' slot turn k.holds same e;
  single = ap (λ (v : SeatView). v.mine) e ∙ k.single;
  fills_are = k.fills_are ∙ ap (λ (v : SeatView). numbers v.core.fills) (sym e);
  empties_are = k.empties_are ∙ ap (λ (v : SeatView). numbers v.core.empties) (sym e);
}

-- the number kept for a box is the side's
pub number_at : (sides : List Side) (ns : List ℕ) (b : Mailbox) → length sides ≡ 6 → ns ≡ numbers sides
    → get_or ns (box_index b) 0 ≡ (side_at sides (box_index b)).number
number_at sides ns b six are = let few =
    few_boxes b in ap (λ (l : List ℕ). get_or l (box_index b) 0) are ∙ get_or-map (λ (z : Side). z.number) sides
    (box_index b) new_side 0 (omega arith)

-- the same at the place that the program has for the box
pub number_there : (sides : List Side) (ns : List ℕ) (b : Mailbox) (index : ℕ) → index ≡ box_index b → length sides ≡ 6
    → ns ≡ numbers sides → get_or ns index 0 ≡ (side_at sides (box_index b)).number
number_there sides ns b index at six are = ap (λ (n : ℕ). get_or ns n 0) at ∙ number_at sides ns b six are

-- it leaves room for one more
pub few_there : (sides : List Side) (ns : List ℕ) (b : Mailbox) (index : ℕ) → index ≡ box_index b → length sides ≡ 6
    → ns ≡ numbers sides → (side_at sides (box_index b)).number < 2 ^ 40 → get_or ns index 0 < 2 ^ 40
few_there sides ns b index at six are few = subst (λ (n : ℕ). n < 2 ^ 40) (sym (number_there sides ns b index at six are)) few

-- a side's number rises
raised : (sides : List Side) (ns : List ℕ) (b : Mailbox) (met n : ℕ) (last : Option Payload) → ns ≡ numbers sides
    → n ≡ (side_at sides (box_index b)).number + 1
    → set ns (box_index b) n ≡ numbers (set sides (box_index b) (side ((side_at sides (box_index b)).number + 1) met last))
raised sides ns b met n last are is = ap (λ (l : List ℕ). set l (box_index b) n) are ∙ ap
    (λ (x : ℕ). set (numbers sides) (box_index b) x) is ∙ sym (map-set (λ (z : Side). z.number) sides (box_index b) _)

module _ (s : Who) (me me' : Mine) (slot r : ℕ) (fills empties : List ℕ) (k : Keeps s me slot fills empties) (t : Swapped r me')
    (b : Mailbox) where
  -- the seat has the slot that the box's word named
  swap_keeps : (c : Core) (n m : List ℕ) → me'.0 ≡ with_core me.0 c → c.hands ≡ set me.0.core.hands (seat_index s) (slot_of r)
      → c.has_slot ≡ me.0.core.has_slot → Sized c → n ≡ numbers c.fills → m ≡ numbers c.empties → Keeps s me' (slot_of r) n m
  swap_keeps c n m e hands has_slot sized fills_are empties_are = record {
    holds = subst (λ (m : Mine). Holds s m (slot_of r)) (λ i. (sym e i, sym t.1 i)) record {
      mine = k.holds.mine;
      hand = ap (λ (l : List ℕ). get_elem? l (seat_index s)) hands ∙ set_there me.0.core.hands (seat_index s) slot (slot_of r)
          k.holds.hand;
      has_slot = ap (λ (l : List Bool). get_elem? l (seat_index s)) has_slot ∙ k.holds.has_slot;
      one = (t.0, refl);
      small = t.2;
      sized = sized;
    };
    single = ap (λ (v : SeatView). v.mine) e ∙ k.single;
    fills_are = fills_are ∙ ap (λ (v : SeatView). numbers v.core.fills) (sym e);
    empties_are = empties_are ∙ ap (λ (v : SeatView). numbers v.core.empties) (sym e);
  }

  its_hand : (w : Who) → w ≡ s → set me.0.core.hands (seat_index w) (slot_of r) ≡ set me.0.core.hands (seat_index s) (slot_of r)
  its_hand w is = ap (λ v. set me.0.core.hands (seat_index v) (slot_of r)) is

  pub fill_keeps : (q : Payload) (n : ℕ) → filler b ≡ s → n ≡ (side_at me.0.core.fills (box_index b)).number + 1
      → me'.0 ≡ with_core me.0 (filled b q r me.0.core) → Keeps s me' (slot_of r) (set fills (box_index b) n) empties
  fill_keeps q n is raise e = swap_keeps (filled b q r me.0.core) _ _ e (its_hand (filler b) is) refl
      ((owned_fill b q r (local_fill b q)).sized me.0.core k.holds.sized) (raised me.0.core.fills fills b _ n _ k.fills_are raise)
      k.empties_are

  pub empty_keeps : (q : Payload) (n : ℕ) → emptier b ≡ s → n ≡ (side_at me.0.core.empties (box_index b)).number + 1
      → me'.0 ≡ with_core me.0 (emptied b q r me.0.core) → Keeps s me' (slot_of r) fills (set empties (box_index b) n)
  empty_keeps q n is raise e = swap_keeps (emptied b q r me.0.core) _ _ e (its_hand (emptier b) is) refl
      ((owned_empty b q r (local_empty b q)).sized me.0.core k.holds.sized) k.fills_are
      (raised me.0.core.empties empties b _ n _ k.empties_are raise)

  pub found_keeps : (n : ℕ) → emptier b ≡ s → n ≡ (side_at me.0.core.empties (box_index b)).number + 1
      → me'.0 ≡ with_core me.0 (found_empty b r me.0.core) → Keeps s me' (slot_of r) fills (set empties (box_index b) n)
  found_keeps n is raise e = swap_keeps (found_empty b r me.0.core) _ _ e (its_hand (emptier b) is) refl
      ((owned_find b r).sized me.0.core k.holds.sized) k.fills_are
      (raised me.0.core.empties empties b _ n _ k.empties_are raise)

-- it has no other seat's part
pub single_has : (s : Who) (mine : List Bool) → mine ≡ set nobody (seat_index s) true → (n : Who) → (seat_index n ≢ seat_index s)
    → get_elem? mine (seat_index n) ≡ some false
single_has s mine is n ne = ap (λ (l : List Bool). get_elem? l (seat_index n)) is ∙ set_else nobody (seat_index s)
    (seat_index n) true ne ∙ nobody_has n

-- ---- whether swaps are left

each_below : (ns : List ℕ) → all_below ns ≡ true → (k : ℕ) → k < length ns → get_or ns k 0 < 2 ^ 40
each_below [] all k few = absurd (omega arith)
each_below (n ∷ ns) all zero few = let e = (and_parts (nat_lt n most_swaps) (all_below ns) all).0 in grind arith
each_below (n ∷ ns) all (suc k) few = each_below ns (and_parts (nat_lt n most_swaps) (all_below ns) all).1 k (omega arith)

below_each : (ns : List ℕ) → ((k : ℕ) → k < length ns → get_or ns k 0 < 2 ^ 40) → all_below ns ≡ true
below_each [] each = refl
below_each (n ∷ ns) each = and_from (nat_lt n most_swaps) (all_below ns) (let l = each 0 (omega arith) in grind arith)
    (below_each ns (λ k few. each (suc k) (omega arith)))

module _ (sides : List Side) (ns : List ℕ) (six : length sides ≡ 6) (are : ns ≡ numbers sides) where
  long : length ns ≡ 6
  long = ap length are ∙ length-map sides (λ (z : Side). z.number) ∙ six

  side_below : all_below ns ≡ true → (b : Mailbox) → (side_at sides (box_index b)).number < 2 ^ 40
  side_below all b = subst (λ n. n < 2 ^ 40) (number_at sides ns b six are)
      (let few = few_boxes b in let l = long in each_below ns all (box_index b) (omega (arith, few, l)))

  below_side : ((b : Mailbox) → (side_at sides (box_index b)).number < 2 ^ 40) → all_below ns ≡ true
  below_side each = below_each ns (λ k few. let l = long in let i =
      index_at k (omega (arith, few, l)) in subst (λ j. get_or ns j 0 < 2 ^ 40) i.1
      (subst (λ n. n < 2 ^ 40) (sym (number_at sides ns i.0 six are)) (each i.0)))

-- a list of six sides, box by box
room_at : (sides : List Side) → LeavesRoom sides → (b : Mailbox) → (side_at sides (box_index b)).number < 2 ^ 40
room_at sides h Outbox = h.0
room_at sides h Inbox = h.1
room_at sides h Bytes0 = h.2
room_at sides h Bytes1 = h.3
room_at sides h Requests = h.4
room_at sides h Answers = h.5

room_all : (sides : List Side) → ((b : Mailbox) → (side_at sides (box_index b)).number < 2 ^ 40) → LeavesRoom sides
room_all sides each = (each Outbox, each Inbox, each Bytes0, each Bytes1, each Requests, each Answers)

pub swaps_left : (s : Who) (me : Mine) (slot : ℕ) (fills empties : List ℕ) (left : Bool) → Keeps s me slot fills empties
    → left ≡ (all_below fills && all_below empties) → (left ≡ true) ↔ HasSwapsLeft me.0.core
swaps_left s me slot fills empties left k is = (
  λ e. let all = and_parts (all_below fills) (all_below empties) (sym is ∙ e) in (
    room_all me.0.core.fills (side_below me.0.core.fills fills k.holds.sized.fills k.fills_are all.0),
    room_all me.0.core.empties (side_below me.0.core.empties empties k.holds.sized.empties k.empties_are all.1),
  ),
  λ h. is ∙ and_from (all_below fills) (all_below empties)
      (below_side me.0.core.fills fills k.holds.sized.fills k.fills_are (room_at me.0.core.fills h.0))
      (below_side me.0.core.empties empties k.holds.sized.empties k.empties_are (room_at me.0.core.empties h.1)),
)

-- ---- what a swap tells

side_set : (sides : List Side) (b : Mailbox) (z : Side) → length sides ≡ 6 → side_at (set sides (box_index b) z) (box_index b) ≡ z
side_set sides b z six = let few = few_boxes b in or_of (set sides (box_index b) z) (box_index b) new_side z
    (set_here sides (box_index b) z (omega (arith, few, six)))

pub says_filled : (b : Mailbox) (q : Payload) (r : ℕ) (old new : Core) → length old.fills ≡ 6 → new ≡ filled b q r old
    → Fills b q old new
says_filled b q r old new six is =
    let s : side_at new.fills (box_index b) ≡ side_at (filled b q r old).fills (box_index b) =
    ap (λ (c : Core). side_at c.fills (box_index b)) is in
    let e = s ∙ side_set old.fills b _ six in
    ((r, is), ap (λ (z : Side). z.number) e, ap (λ (z : Side). z.last) e)

pub says_emptied : (b : Mailbox) (q : Payload) (r : ℕ) (old new : Core) → length old.empties ≡ 6 → new ≡ emptied b q r old
    → (side_at old.empties (box_index b)).met < number_of r → WasIn b old.known q → Empties b (Some q) old new
says_emptied b q r old new six is met was =
    let s : side_at new.empties (box_index b) ≡ side_at (emptied b q r old).empties (box_index b) =
    ap (λ (c : Core). side_at c.empties (box_index b)) is in
    let e = s ∙ side_set old.empties b _ six in (
      was,
      (r, is),
      ap (λ (z : Side). z.number) e,
      subst (λ (z : Side). (side_at old.empties (box_index b)).met < z.met)
          (sym e) met,
    )

pub says_found : (b : Mailbox) (r : ℕ) (old new : Core) → length old.empties ≡ 6 → new ≡ found_empty b r old
    → Empties b None old new
says_found b r old new six is =
    let s : side_at new.empties (box_index b) ≡ side_at (found_empty b r old).empties (box_index b) =
    ap (λ (c : Core). side_at c.empties (box_index b)) is in
    let e = s ∙ side_set old.empties b _ six in
    ((r, is), ap (λ (z : Side). z.number) e, ap (λ (z : Side). z.met) e)
