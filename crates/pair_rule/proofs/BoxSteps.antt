-- Each step keeps the rule of the table.
use Rattle.std.proofs.Common.{◌≡◌, ℕ, ◌+◌, ◌<◌, Bool, true, false, List, [], ◌∷◌, ◌++◌, get_or, set, sym, refl, ap, ◌∙◌, subst, arith, Option, Some, None}
use mathlib.Core.Option.{some}
use lib.ListN.{get_elem?}
use Rattle.pair_rule.proofs.Words.{Allows, AsksNot, Boxed, CanFill, Core, Emptied, Facts, Filled, Fits, Mailbox, MayPut, Mine, Payload, Rule, Same, SeatView, Side, WhereSome, Who, box_index, chain, emptied, emptier, empties, empty_word, filled, filler, fills, found_empty, full_word, gives, has, is_full, new_side, number_of, seat_index, side_at, slot_of, takes, with_core, words_of}
use Rattle.pair_rule.specs.Histories as plain
use Rattle.pair_rule.proofs.Histories.{asks_same, may_put}
use Rattle.pair_rule.proofs.Slots.{swapped, found, within, or_both}
use Rattle.pair_rule.proofs.SlotSwaps.{apart, inside}
use Rattle.pair_rule.proofs.Parts.{Owned, one_box, owned_fill, owned_empty, owned_find, steps}
use Rattle.pair_rule.proofs.BoxSwaps.{Table, Goes, word_at, word_set, at_here, at_fill, box, fill_facts, empty_facts, found_facts}
use Rattle.pair_rule.proofs.Filled.{local_fill, local_empty, fill_keeps, can_same}
use Rattle.pair_rule.proofs.Emptied.{empty_keeps}

-- the load in the seat's slot is the one that a play names
from_option : Payload → Option Payload → Payload
from_option d None = d
from_option d (Some q) = q

from_slots : Payload → List (ℕ × Option Payload) → Payload
from_slots d [] = d
from_slots d (x ∷ xs) = from_option d x.1

pub same_load : (c : List (ℕ × Option Payload)) (h k : ℕ) (q p : Payload) → c ≡ (h, Some q) ∷ [] → c ≡ (k, Some p) ∷ [] → q ≡ p
unfolding from_slots from_option
same_load c h k q p a b = ap (from_slots q) (sym a ∙ b)

module _ (g : ℕ) (s : Table) (r : Rule g s) (id : ℕ) (v : SeatView) (at : get_elem? s.views id ≡ some v) where
  abbrev core : Core
  core = r.core

  -- the part that the seat has
  pub own : (n : Who) → has v n → Same n v.core core
  own n mine = ((r.seats n).only id v at mine).1

  module _ (b : Mailbox) (hand new : ℕ) where
    abbrev word : ℕ
    word = get_or r.boxes (box_index b) 0

    found_word : get_or s.words (5 + box_index b) 0 ≡ word
    found_word = ap (λ z. get_or z (5 + box_index b) 0) r.words ∙ word_at b core.known r.boxes

    -- what a swap of the box's word leaves, where the facts go on to hold of a core with the same words
    swap_goes : (n : Who) (x : Option Payload) (turn : Core → Core) (told : ℕ → Mine → Type 0) → Owned n turn → has v n
        → get_elem? core.hands (seat_index n) ≡ some hand
        → words_of (turn core).known ≡ words_of core.known
        → Facts g (set r.boxes (box_index b) new) (swapped s.homes hand x (slot_of word)) (turn core)
        → (y : Option Payload) → get_elem? s.homes (slot_of word) ≡ some (some y)
        → (slot_of word < 11 → told word (with_core v (turn v.core), (slot_of word, y) ∷ []))
        → Goes g s.words s.homes s.views (5 + box_index b) id (v, (hand, x) ∷ []) (λ _. new) told
    swap_goes n x turn told o mine held_here words facts y lying tells =
        let f = r.facts in let a = at_here g r.boxes s.homes core f b hand in (
          with_core v (turn v.core),
          chain gives (takes (slot_of word) y),
          (
            tt,
            found s.homes hand x (slot_of word)
                (apart r.boxes core.hands core.has_slot s.homes f.laid (box_index b) word (seat_index n) hand x a held_here)
                (inside r.boxes core.hands core.has_slot s.homes f.laid (box_index b) word (seat_index n) hand x a held_here) y
                lying,
          ),
          record {
            core = turn core;
            boxes = set r.boxes (box_index b) new;
            words = ap (λ z. set z (5 + box_index b) new) r.words ∙ word_set b core.known r.boxes new ∙ ap
                (λ z. z ++ set r.boxes (box_index b) new) (sym words);
            at = r.at;
            seats = λ t. steps s.views core n t r.at id v turn o f.sized r.seats at mine;
            facts = facts;
          },
          subst (λ z. told z (with_core v (turn v.core), (slot_of word, y) ∷ [])) (sym found_word)
              (tells (let near = within s.homes (slot_of word) (some y) lying in let deep = f.laid.deep in let six =
              f.six in let five = f.sized.hands in omega arith)),
        )

    fill_goes : (q : Payload) → has v (filler b) → get_elem? v.core.hands (seat_index (filler b)) ≡ some hand
        → get_elem? v.core.has_slot (seat_index (filler b)) ≡ some true
        → new ≡ full_word ((side_at v.core.fills (box_index b)).number + 1) hand → CanFill b v.core.known q
        → MayPut b v.core.known q
        → Goes g s.words s.homes s.views (5 + box_index b) id (v, (hand, Some q) ∷ []) (λ _. new)
        (fills (5 + box_index b) (v, (hand, Some q) ∷ []))
    fill_goes q mine hands has_slot is can may =
        let f = r.facts in let o = own (filler b) mine in let sides : side_at v.core.fills (box_index b) ≡ side_at core.fills
        (box_index b) = or_both v.core.fills core.fills (box_index b) new_side (o.fills b refl) in
        let could = can_same b q v.core.known core.known o.generation o.known can in
        let k = fill_keeps core.known f.stands b q could in
        let l = local_fill b q in
        let full = f.laid.full (box_index b) word (at_here g r.boxes s.homes core f b hand) in
        swap_goes (filler b) (Some q) (filled b q word) (fills (5 + box_index b) (v, (hand, Some q) ∷ []))
        (owned_fill b q word l) mine (sym o.hand ∙ hands) k.0.words
        (subst (λ z. Facts g (set r.boxes (box_index b) z) (swapped s.homes hand (Some q) (slot_of word)) (filled b q word core))
        (sym (is ∙ ap (λ (z : Side). full_word (z.number + 1) hand) sides))
        (fill_facts g r.boxes s.homes core f b hand q (sym o.hand ∙ hands) (sym o.has_slot ∙ has_slot) l k.0 k.1
        (plain.Goes f.ran (plain.Fills b q (may_put b q v.core.known core.known o.known may) could))))
        full.0 full.1
        (λ small c e. let same = one_box b c (let z : 5 + box_index b ≡ 5 + box_index c = e in omega arith) in
        subst (λ (z : Mailbox). Filled z (v, (hand, Some q) ∷ []) word
        (with_core v (filled b q word v.core), (slot_of word, full.0) ∷ [])) same (
          (full.0, refl, small),
          λ h p has. ap (λ (z : Payload). with_core v (filled b z word v.core))
              (same_load ((hand, Some q) ∷ []) hand h q p refl has),
        ))

    empty_goes : (x : Option Payload) → AsksNot (emptier b) v.core.known → has v (emptier b) → get_elem? v.core.hands (seat_index (emptier b)) ≡ some hand
        → get_elem? v.core.has_slot (seat_index (emptier b)) ≡ some true
        → new ≡ empty_word ((side_at v.core.empties (box_index b)).number + 1) hand
        → (full : Bool) → is_full word ≡ full
        → Boxed word s.homes (side_at core.fills (box_index b)) (side_at core.empties (box_index b)) full
        → Goes g s.words s.homes s.views (5 + box_index b) id (v, (hand, x) ∷ []) (λ _. new)
        (empties (5 + box_index b) (v, (hand, x) ∷ []))
    empty_goes x asks mine hands has_slot is true said box =
        let f = r.facts in let o = own (emptier b) mine in let sides : side_at v.core.empties (box_index b) ≡ side_at core.empties
        (box_index b) = or_both v.core.empties core.empties (box_index b) new_side (o.empties b refl) in
        let q : Payload = box.3.0 in
        let fit : Fits b core.known q = subst (λ l. WhereSome l (Fits b core.known)) box.3.1
        (f.fitting b (side_at core.fills (box_index b)) (at_fill g r.boxes s.homes core f b hand)) in
        let k = empty_keeps core.known f.stands b q fit in
        let l = local_empty b q in
        let met : (side_at v.core.empties (box_index b)).met < number_of word =
        (let e : (side_at v.core.empties (box_index b)).met ≡ (side_at core.empties (box_index b)).met =
        ap (λ (z : Side). z.met) sides in let c = box.1 in let d = box.0 in omega arith) in
        swap_goes (emptier b) x (emptied b q word) (empties (5 + box_index b) (v, (hand, x) ∷ []))
        (owned_empty b q word l) mine (sym o.hand ∙ hands) k.words
        (subst (λ z. Facts g (set r.boxes (box_index b) z) (swapped s.homes hand x (slot_of word)) (emptied b q word core))
        (sym (is ∙ ap (λ (z : Side). empty_word (z.number + 1) hand) sides))
        (empty_facts g r.boxes s.homes core f b hand q x (sym o.hand ∙ hands) (sym o.has_slot ∙ has_slot) l k fit
        (plain.Goes f.ran (plain.Empties b q (asks_same (emptier b) v.core.known core.known o.known asks) fit)) box))
        (Some q) box.3.2
        (λ small c e. let same = one_box b c (let w : 5 + box_index b ≡ 5 + box_index c = e in omega arith) in (
          (Some q, refl, small),
          subst (λ (d : Mailbox). Emptied d (v, (hand, x) ∷ []) word
              (with_core v (emptied b q word v.core), (slot_of word, Some q) ∷ []) (is_full word)) same
              (subst (Emptied b (v, (hand, x) ∷ []) word (with_core v (emptied b q word v.core), (slot_of word, Some q) ∷ []))
              (sym said)
              (q, (core.known, record { stands = f.stands; ran = f.ran; generation = o.generation; same = o.known }, fit), refl, met, refl)),
        ))
    empty_goes x asks mine hands has_slot is false said box =
        let f = r.facts in let o = own (emptier b) mine in let sides : side_at v.core.empties (box_index b) ≡ side_at core.empties
        (box_index b) = or_both v.core.empties core.empties (box_index b) new_side (o.empties b refl) in
        swap_goes (emptier b) x (found_empty b word) (empties (5 + box_index b) (v, (hand, x) ∷ []))
        (owned_find b word) mine (sym o.hand ∙ hands) refl
        (subst (λ z. Facts g (set r.boxes (box_index b) z) (swapped s.homes hand x (slot_of word)) (found_empty b word core))
        (sym (is ∙ ap (λ (z : Side). empty_word (z.number + 1) hand) sides))
        (found_facts g r.boxes s.homes core f b hand x (sym o.hand ∙ hands) (sym o.has_slot ∙ has_slot) box))
        box.2.0 box.2.1
        (λ small c e. let same = one_box b c (let w : 5 + box_index b ≡ 5 + box_index c = e in omega arith) in (
          (box.2.0, refl, small),
          subst (λ (d : Mailbox). Emptied d (v, (hand, x) ∷ []) word
              (with_core v (found_empty b word v.core), (slot_of word, box.2.0) ∷ []) (is_full word)) same
              (subst (Emptied b (v, (hand, x) ∷ []) word (with_core v (found_empty b word v.core), (slot_of word, box.2.0) ∷ []))
              (sym said) refl),
        ))

pub fill_allowed : (g n id : ℕ) (me : Mine) (b : Mailbox) (hand new : ℕ) (q : Payload) → has me.0 (filler b)
    → get_elem? me.0.core.hands (seat_index (filler b)) ≡ some hand
    → get_elem? me.0.core.has_slot (seat_index (filler b)) ≡ some true
    → me.1 ≡ (hand, Some q) ∷ [] → new ≡ full_word ((side_at me.0.core.fills (box_index b)).number + 1) hand
    → CanFill b me.0.core.known q → MayPut b me.0.core.known q → Allows (Rule g) n id me (5 + box_index b) (λ _. new) (fills (5 + box_index b) me)
fill_allowed g n id me b hand new q mine hands has_slot holds is can may s r deep at _ =
    subst (λ c. Goes g s.words s.homes s.views (5 + box_index b) id (me.0, c) (λ _. new) (fills (5 + box_index b) (me.0, c)))
    (sym holds) (fill_goes g s r id me.0 at b hand new q mine hands has_slot is can may)

pub empty_allowed : (g n id : ℕ) (me : Mine) (b : Mailbox) (hand new : ℕ) (x : Option Payload)
    → AsksNot (emptier b) me.0.core.known → has me.0 (emptier b)
    → get_elem? me.0.core.hands (seat_index (emptier b)) ≡ some hand
    → get_elem? me.0.core.has_slot (seat_index (emptier b)) ≡ some true
    → me.1 ≡ (hand, x) ∷ [] → new ≡ empty_word ((side_at me.0.core.empties (box_index b)).number + 1) hand
    → Allows (Rule g) n id me (5 + box_index b) (λ _. new) (empties (5 + box_index b) me)
empty_allowed g n id me b hand new x asks mine hands has_slot holds is s r deep at _ =
    subst (λ c. Goes g s.words s.homes s.views (5 + box_index b) id (me.0, c) (λ _. new) (empties (5 + box_index b) (me.0, c)))
    (sym holds)
    (empty_goes g s r id me.0 at b hand new x asks mine hands has_slot is (is_full (get_or r.boxes (box_index b) 0)) refl
    (box g r.boxes s.homes r.core r.facts b hand))
