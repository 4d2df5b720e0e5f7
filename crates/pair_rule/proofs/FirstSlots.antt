-- A seat takes its first slot, and gives its last one back.
use Rattle.std.proofs.Common.{◌≡◌, ℕ, Bool, true, false, List, [], ◌∷◌, get_or, set, sym, refl, ap, ◌∙◌, subst, Option, None}
use mathlib.Core.Option as maybe
use mathlib.Core.Option.{some, none, some-injective}
use lib.ListN.{get_elem?}
use Rattle.pair_rule.proofs.Words.{Act, Allows, Core, Facts, Homes, Laid, Mine, Payload, Rule, SeatView, Valid, Who, box_index, carried_after, gives, gives_last_slot, has, homes_after, seat_index, takes, takes_first_slot, with_core, with_slot}
use Rattle.pair_rule.proofs.Slots.{box_stays}
use Rattle.pair_rule.proofs.SlotSwaps.{laid_first, laid_last, home_else}
use Rattle.pair_rule.proofs.Parts.{owned_slot, steps}
use Rattle.pair_rule.proofs.BoxSwaps.{Table, Goes}
use Rattle.pair_rule.proofs.BoxSteps.{own}

module _ (g : ℕ) (boxes : List ℕ) (homes : Homes) (c : Core) (f : Facts g boxes homes c) (s : Who) (h : ℕ)
    (at : get_elem? c.hands (seat_index s) ≡ some h) where
  slot_facts : (b : Bool) (y : maybe.Option (Option Payload))
      → Laid boxes c.hands (set c.has_slot (seat_index s) b) (set homes h y) → Facts g boxes (set homes h y) (with_slot s b c)
  slot_facts b y laid = record {
    generation = f.generation;
    sized = (owned_slot s b).sized c f.sized;
    six = f.six;
    laid = laid;
    boxed = λ j w p q aw ap' aq. box_stays w homes (set homes h y) p q
        (home_else boxes c.hands c.has_slot homes f.laid (seat_index s) h at y (box_index j) w aw) _ (f.boxed j w p q aw ap' aq);
    fitting = f.fitting;
    counted = f.counted;
    stands = f.stands;
    ran = f.ran;
  }

module _ (g : ℕ) (s : Table) (r : Rule g s) (id : ℕ) (v : SeatView) (at : get_elem? s.views id ≡ some v) (n : Who)
    (mine : has v n) (c : List (ℕ × Option Payload)) (h : ℕ) (hand : get_elem? v.core.hands (seat_index n) ≡ some h) where
  slot_goes : (b : Bool) (told : ℕ → Mine → Type 0) (a : Act (Option Payload)) (homes : Homes) → Valid s.homes c a
      → Facts g r.boxes (homes_after s.homes c a) (with_slot n b r.core)
      → told (get_or s.words 0 0) (with_core v (with_slot n b v.core), carried_after c a)
      → Goes g s.words s.homes s.views 0 id (v, c) (λ x. x) told
  slot_goes b told a homes valid facts tells = (
    with_core v (with_slot n b v.core),
    a,
    valid,
    record {
      core = with_slot n b r.core;
      boxes = r.boxes;
      words = ap (λ z. set z 0 (get_or z 0 0)) r.words;
      at = r.at;
      seats = λ t. steps s.views r.core n t r.at id v (with_slot n b) (owned_slot n b) r.facts.sized r.seats at mine;
      facts = facts;
    },
    tells,
  )

pub first_slot_allowed : (g n id : ℕ) (me : Mine) (s : Who) (h : ℕ) → has me.0 s
    → get_elem? me.0.core.hands (seat_index s) ≡ some h → get_elem? me.0.core.has_slot (seat_index s) ≡ some false
    → Allows (Rule g) n id me 0 (λ x. x) (takes_first_slot s me)
first_slot_allowed g n id me s h mine hand bare st r deep at _ =
    let f = r.facts in let o = own g st r id me.0 at s mine in let there = sym o.hand ∙ hand in
    slot_goes g st r id me.0 at s mine me.1 h hand true (takes_first_slot s me) (takes h None) st.homes
    (f.laid.bare (seat_index s) h there (sym o.has_slot ∙ bare))
    (slot_facts g r.boxes st.homes r.core f s h there true none
    (laid_first r.boxes r.core.hands r.core.has_slot st.homes f.laid (seat_index s) h there))
    ((λ k e. ap (λ (z : ℕ). (z, None) ∷ me.1) (some-injective h k (sym hand ∙ e))), refl)

pub last_slot_allowed : (g n id : ℕ) (me : Mine) (s : Who) (h : ℕ) → has me.0 s
    → get_elem? me.0.core.hands (seat_index s) ≡ some h → me.1 ≡ (h, None) ∷ []
    → Allows (Rule g) n id me 0 (λ x. x) (gives_last_slot s me)
last_slot_allowed g n id me s h mine hand holds st r deep at _ =
    subst (λ c. Goes g st.words st.homes st.views 0 id (me.0, c) (λ x. x) (gives_last_slot s (me.0, c))) (sym holds)
    (let f = r.facts in let o = own g st r id me.0 at s mine in let there = sym o.hand ∙ hand in
    slot_goes g st r id me.0 at s mine ((h, None) ∷ []) h hand false (gives_last_slot s (me.0, (h, None) ∷ [])) gives st.homes tt
    (slot_facts g r.boxes st.homes r.core f s h there false (some None)
    (laid_last r.boxes r.core.hands r.core.has_slot st.homes f.laid (seat_index s) h there))
    (refl, refl))
