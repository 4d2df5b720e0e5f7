-- A seat fills or empties a box, whichever these are.
use Rattle.std.proofs.Common.{◌≡◌, ◌≢◌, ℕ, ◌+◌, ◌<◌, true, false, List, ◌++◌, set, get_or, sym, refl, ap, ◌∙◌, subst, ⊎_elim, arith, length-set, Option, Some, None}
use mathlib.Core.Option.{some, some-injective}
use lib.ListN.{get_elem?}
use Rattle.pair_rule.proofs.Words.{Act, Boxed, Boxes, Core, Facts, Fits, Homes, Knowledge, Laid, Mailbox, Mine, Outbox, Payload, PlainRun, Rule, SeatView, Side, Stands, State, Valid, WhereSome, Who, after_empty, after_fill, at_set, box_index, carried_after, emptied, emptier, empty_word, filled, filler, filler_met, found_empty, full_word, homes_after, is_full, new_side, number_of, seat_index, set_else, set_here, side, side_at, slot_of, words_of}
use Rattle.pair_rule.proofs.Slots as slots
use Rattle.pair_rule.proofs.Slots.{swapped, given, box_stays, slot_full, slot_empty, set_both, at_or}
use Rattle.pair_rule.proofs.SlotSwaps.{laid_swap, box_else, apart, inside}
use Rattle.pair_rule.proofs.Parts.{Local, one_box, few_boxes, owned_fill, owned_empty, owned_find}
use Rattle.pair_rule.proofs.Counting.{empty_counted, fill_counted, found_counted}

abbrev pub Table : Type 0
Table = State (Option Payload) SeatView

-- what a step owes: a view and an act
abbrev pub Goes : ℕ → List ℕ → Homes → List SeatView → ℕ → ℕ → Mine → (ℕ → ℕ) → (ℕ → Mine → Type 0) → Type 0
Goes g ws hs vs i id me f told =
    (w : SeatView) × (a : Act (Option Payload)) × Valid hs me.1 a
    × Rule g record { words = set ws i (f (get_or ws i 0)); homes = homes_after hs me.1 a; views = set vs id w }
    × told (get_or ws i 0) (w, carried_after me.1 a)

-- the words of the boxes stand behind those that what is known gives
pub word_at : (b : Mailbox) (k : Knowledge) (boxes : List ℕ)
    → get_or (words_of k ++ boxes) (5 + box_index b) 0 ≡ get_or boxes (box_index b) 0
word_at Outbox k boxes = refl
word_at _ k boxes = refl

pub word_set : (b : Mailbox) (k : Knowledge) (boxes : List ℕ) (x : ℕ)
    → set (words_of k ++ boxes) (5 + box_index b) x ≡ words_of k ++ set boxes (box_index b) x
word_set Outbox k boxes x = refl
word_set _ k boxes x = refl

-- a change of what is known that keeps what stands, the words, and what lies in boxes
pub record Keeps (turn : Knowledge → Knowledge) (k : Knowledge) : Type 0 where
  pub stands : Stands (turn k)
  pub words : words_of (turn k) ≡ words_of k
  pub fits : (b : Mailbox) (x : Payload) → Fits b k x → Fits b (turn k) x

pub keeps_all : (k : Knowledge) → Stands k → Keeps (λ k. k) k
keeps_all k s = record { stands = s; words = refl; fits = λ b x f. f }

pub last_fits : (last : Option Payload) (P Q : Payload → Type 0) → ((x : Payload) → P x → Q x) → WhereSome last P
    → WhereSome last Q
last_fits None P Q f i = i
last_fits (Some x) P Q f i = f x i

module _ (g : ℕ) (boxes : List ℕ) (homes : Homes) (c : Core) (f : Facts g boxes homes c) (b : Mailbox) (hand : ℕ) where
  abbrev pub here : ℕ
  here = get_or boxes (box_index b) 0

  pub at_here : get_elem? boxes (box_index b) ≡ some here
  at_here = let near = few_boxes b in at_or boxes (box_index b) 0 (let six = f.six in omega arith)

  pub at_fill : get_elem? c.fills (box_index b) ≡ some (side_at c.fills (box_index b))
  at_fill = let near = few_boxes b in at_or c.fills (box_index b) new_side (let six = f.sized.fills in omega arith)

  pub at_empty : get_elem? c.empties (box_index b) ≡ some (side_at c.empties (box_index b))
  at_empty = let near = few_boxes b in at_or c.empties (box_index b) new_side (let six = f.sized.empties in omega arith)

  abbrev pub box : Boxed here homes (side_at c.fills (box_index b)) (side_at c.empties (box_index b)) (is_full here)
  box = f.boxed b here (side_at c.fills (box_index b)) (side_at c.empties (box_index b)) at_here at_fill at_empty

  pub small : (s : Who) → get_elem? c.hands (seat_index s) ≡ some hand → hand < 11
  small s at = let o = (f.laid.seats (seat_index s) hand at).1 in let d = f.laid.deep in let six = f.six in let five =
      f.sized.hands in omega arith

  -- the two boxes are one, or another box stands as it was
  module _ (s : Who) (x : Option Payload) (at : get_elem? c.hands (seat_index s) ≡ some hand) (new : ℕ)
      (is : slot_of new ≡ hand) where
    abbrev homes' : Homes
    homes' = swapped homes hand x (slot_of here)

    abbrev in_box : get_elem? homes' hand ≡ some (some x)
    in_box = given homes hand x (slot_of here)
        (apart boxes c.hands c.has_slot homes f.laid (box_index b) here (seat_index s) hand x at_here at)
        (inside boxes c.hands c.has_slot homes f.laid (box_index b) here (seat_index s) hand x at_here at)

    fill_boxes : (y : Side) → Boxed new homes' y (side_at c.empties (box_index b)) (is_full new)
        → Boxes (set boxes (box_index b) new) homes' (set c.fills (box_index b) y) c.empties
    fill_boxes y own k w fs es aw af ae = ⊎_elim
        (λ (t : (box_index k ≡ box_index b) × (new ≡ w)). let e = t.0 in
        let fe : y ≡ fs = some-injective y fs
        (sym (set_here c.fills (box_index b) y (let near = few_boxes b in let six = f.sized.fills in omega arith)) ∙ ap
        (get_elem? (set c.fills (box_index b) y)) (sym e) ∙ af) in
        let ee : side_at c.empties (box_index b) ≡ es =
        some-injective (side_at c.empties (box_index b)) es (sym at_empty ∙ ap (get_elem? c.empties) (sym e) ∙ ae) in
        subst (λ (z : ℕ × Side × Side). Boxed z.0 homes' z.1 z.2 (is_full z.0)) (λ i. (t.1 i, fe i, ee i)) own)
        (λ (t : (box_index k ≢ box_index b) × (get_elem? boxes (box_index k) ≡ some w)).
        box_stays w homes homes' fs es (box_else boxes c.hands c.has_slot homes f.laid (box_index b) here
        (seat_index s) hand x at_here at (box_index k) w t.1 t.0) (is_full w)
        (f.boxed k w fs es t.1 (sym (set_else c.fills (box_index b) (box_index k) y t.0) ∙ af) ae))
        (at_set boxes (box_index b) (box_index k) new w aw)

    empty_boxes : (y : Side) → Boxed new homes' (side_at c.fills (box_index b)) y (is_full new)
        → Boxes (set boxes (box_index b) new) homes' c.fills (set c.empties (box_index b) y)
    empty_boxes y own k w fs es aw af ae = ⊎_elim
        (λ (t : (box_index k ≡ box_index b) × (new ≡ w)). let e = t.0 in
        let ee : y ≡ es = some-injective y es
        (sym (set_here c.empties (box_index b) y (let near = few_boxes b in let six = f.sized.empties in omega arith)) ∙ ap
        (get_elem? (set c.empties (box_index b) y)) (sym e) ∙ ae) in
        let fe : side_at c.fills (box_index b) ≡ fs =
        some-injective (side_at c.fills (box_index b)) fs (sym at_fill ∙ ap (get_elem? c.fills) (sym e) ∙ af) in
        subst (λ (z : ℕ × Side × Side). Boxed z.0 homes' z.1 z.2 (is_full z.0)) (λ i. (t.1 i, fe i, ee i)) own)
        (λ (t : (box_index k ≢ box_index b) × (get_elem? boxes (box_index k) ≡ some w)).
        box_stays w homes homes' fs es (box_else boxes c.hands c.has_slot homes f.laid (box_index b) here
        (seat_index s) hand x at_here at (box_index k) w t.1 t.0) (is_full w)
        (f.boxed k w fs es t.1 af (sym (set_else c.empties (box_index b) (box_index k) y t.0) ∙ ae)))
        (at_set boxes (box_index b) (box_index k) new w aw)

    laid_after : get_elem? c.has_slot (seat_index s) ≡ some true
        → Laid (set boxes (box_index b) new) (set c.hands (seat_index s) (slot_of here)) c.has_slot homes'
    laid_after has_slot = laid_swap boxes c.hands c.has_slot homes f.laid (box_index b) here
        (seat_index s) hand x at_here at new is has_slot

  -- what a fill leaves
  pub fill_facts : (q : Payload) → get_elem? c.hands (seat_index (filler b)) ≡ some hand
      → get_elem? c.has_slot (seat_index (filler b)) ≡ some true
      → Local (filler b) (after_fill b q) → Keeps (after_fill b q) c.known → Fits b (after_fill b q c.known) q
      → PlainRun (after_fill b q c.known)
      → Facts g (set boxes (box_index b) (full_word ((side_at c.fills (box_index b)).number + 1) hand))
      (swapped homes hand (Some q) (slot_of here)) (filled b q here c)
  fill_facts q at has_slot l k fit ran = let n : ℕ = (side_at c.fills (box_index b)).number + 1 in let new : ℕ = full_word n hand in
      let near : hand < 16 = (let z = small (filler b) at in omega arith) in let is : slot_of new ≡ hand =
      slot_full n hand near in
      let y : Side = side n (filler_met (is_full here) here (side_at c.fills (box_index b)).met) (Some q) in record {
        generation = l.generation c.known ∙ f.generation;
        sized = (owned_fill b q here l).sized c f.sized;
        six = length-set boxes (box_index b) new ∙ f.six;
        laid = laid_after (filler b) (Some q) at new is has_slot;
        boxed = fill_boxes (filler b) (Some q) at new is y
            (slots.fills here homes (swapped homes hand (Some q) (slot_of here)) (side_at c.fills (box_index b))
            (side_at c.empties (box_index b)) (is_full here) hand q near (in_box (filler b) (Some q) at new is) box);
        fitting = λ j z e. ⊎_elim
            (λ (t : (box_index j ≡ box_index b) × (y ≡ z)). subst
            (λ (p : Mailbox × Side). WhereSome p.1.last (Fits p.0 (after_fill b q c.known)))
            (λ i. (sym (one_box j b t.0) i, t.1 i)) fit)
            (λ (t : (box_index j ≢ box_index b) × (get_elem? c.fills (box_index j) ≡ some z)). last_fits z.last (Fits j c.known)
            (Fits j (after_fill b q c.known)) (k.fits j) (f.fitting j z t.1))
            (at_set c.fills (box_index b) (box_index j) y z e);
        counted = fill_counted c.fills c.empties c.known f.counted f.sized.fills b q y refl fit;
        stands = k.stands;
        ran = ran;
      }

  fits_on : (turn : Knowledge → Knowledge) → Keeps turn c.known → (j : Mailbox) (z : Side)
      → get_elem? c.fills (box_index j) ≡ some z → WhereSome z.last (Fits j (turn c.known))
  fits_on turn k j z e = last_fits z.last (Fits j c.known) (Fits j (turn c.known)) (k.fits j) (f.fitting j z e)

  -- what an emptying leaves: of a full box, and of an empty one
  pub empty_facts : (q : Payload) (x : Option Payload) → get_elem? c.hands (seat_index (emptier b)) ≡ some hand
      → get_elem? c.has_slot (seat_index (emptier b)) ≡ some true
      → Local (emptier b) (after_empty b q) → Keeps (after_empty b q) c.known → Fits b c.known q
      → PlainRun (after_empty b q c.known)
      → Boxed here homes (side_at c.fills (box_index b)) (side_at c.empties (box_index b)) true
      → Facts g (set boxes (box_index b) (empty_word ((side_at c.empties (box_index b)).number + 1) hand))
      (swapped homes hand x (slot_of here)) (emptied b q here c)
  empty_facts q x at has_slot l k fit ran full = let n : ℕ = (side_at c.empties (box_index b)).number + 1 in let new : ℕ =
      empty_word n hand in
      let near : hand < 16 = (let z = small (emptier b) at in omega arith) in let is : slot_of new ≡ hand =
      slot_empty n hand near in
      let y : Side = side n (number_of here) (Some q) in record {
        generation = l.generation c.known ∙ f.generation;
        sized = (owned_empty b q here l).sized c f.sized;
        six = length-set boxes (box_index b) new ∙ f.six;
        laid = laid_after (emptier b) x at new is has_slot;
        boxed = empty_boxes (emptier b) x at new is y
            (slots.empties here homes (swapped homes hand x (slot_of here)) (side_at c.fills (box_index b))
            (side_at c.empties (box_index b)) hand x (Some q) near (in_box (emptier b) x at new is) full);
        fitting = fits_on (after_empty b q) k;
        counted = empty_counted c.fills c.empties c.known f.counted f.sized.empties b q y
            (let a = full.0 in let m = full.1 in omega (arith, a, m)) fit;
        stands = k.stands;
        ran = ran;
      }

  pub found_facts : (x : Option Payload) → get_elem? c.hands (seat_index (emptier b)) ≡ some hand
      → get_elem? c.has_slot (seat_index (emptier b)) ≡ some true
      → Boxed here homes (side_at c.fills (box_index b)) (side_at c.empties (box_index b)) false
      → Facts g (set boxes (box_index b) (empty_word ((side_at c.empties (box_index b)).number + 1) hand))
      (swapped homes hand x (slot_of here)) (found_empty b here c)
  found_facts x at has_slot none = let n : ℕ = (side_at c.empties (box_index b)).number + 1 in let new : ℕ = empty_word n hand in
      let near : hand < 16 = (let z = small (emptier b) at in omega arith) in let is : slot_of new ≡ hand =
      slot_empty n hand near in
      let y : Side = side n (side_at c.empties (box_index b)).met (side_at c.empties (box_index b)).last in record {
        generation = f.generation;
        sized = (owned_find b here).sized c f.sized;
        six = length-set boxes (box_index b) new ∙ f.six;
        laid = laid_after (emptier b) x at new is has_slot;
        boxed = empty_boxes (emptier b) x at new is y
            (slots.finds_empty here homes (swapped homes hand x (slot_of here)) (side_at c.fills (box_index b))
            (side_at c.empties (box_index b)) hand x (side_at c.empties (box_index b)).last near
            (in_box (emptier b) x at new is) none);
        fitting = f.fitting;
        counted = found_counted c.fills c.empties c.known f.counted f.sized.empties b y refl;
        stands = f.stands;
        ran = f.ran;
      }
