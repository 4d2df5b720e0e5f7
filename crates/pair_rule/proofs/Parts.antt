-- Whose each part of the core is, when one seat changes its own. A change is that seat's own if it changes lists place by place, at
-- the places of the seat alone, and of what is known its part alone. Then each part is still at one seat, and the same there.
use Rattle.std.proofs.Common.{◌≡◌, ◌≢◌, ℕ, zero, suc, ◌+◌, ◌<◌, Bool, false, List, [], ◌∷◌, length, get_or, set, sym, refl, ap, ◌∙◌, subst, ⊎_elim, arith, length-set, Some}
use mathlib.Core.Option.{some, some-injective}
use mathlib.Core.Logic.{dite}
use native.Mathlib.Decide.{ℕ_discrete}
use lib.ListN.{get_elem?}
use Rattle.pair_rule.proofs.Words.{Answers, Backup, Bytes0, Bytes1, Core, Disk, Has, Inbox, Knowledge, Link, Mailbox, Outbox, Part, Payload, Primary, Requests, Same, SamePart, SeatView, Side, Sized, Terminal, Who, after_empty, after_fill, at_set, box_index, emptied, emptier, filled, filler, filler_met, found_empty, has, is_full, new_side, number_of, part, seat_index, set_else, side, slot_of, with_known, with_slot}
use Rattle.pair_rule.proofs.Slots.{set_both, or_both}

-- numbers name one seat and one box
who_at : ℕ → Who
who_at zero = Primary
who_at (suc zero) = Link
who_at (suc (suc zero)) = Backup
who_at (suc (suc (suc zero))) = Terminal
who_at (suc (suc (suc (suc n)))) = Disk

who_of : (s : Who) → who_at (seat_index s) ≡ s
unfolding who_at
who_of Primary = refl
who_of _ = refl

pub one_seat : (s t : Who) → seat_index s ≡ seat_index t → s ≡ t
one_seat s t e = sym (who_of s) ∙ ap who_at e ∙ who_of t

box_at : ℕ → Mailbox
box_at zero = Outbox
box_at (suc zero) = Inbox
box_at (suc (suc zero)) = Bytes0
box_at (suc (suc (suc zero))) = Bytes1
box_at (suc (suc (suc (suc zero)))) = Requests
box_at (suc (suc (suc (suc (suc n))))) = Answers

box_of : (b : Mailbox) → box_at (box_index b) ≡ b
unfolding box_at
box_of Outbox = refl
box_of _ = refl

pub one_box : (a b : Mailbox) → box_index a ≡ box_index b → a ≡ b
one_box a b e = sym (box_of a) ∙ ap box_at e ∙ box_of b

pub index_at : (k : ℕ) → k < 6 → (b : Mailbox) × (box_index b ≡ k)
unfolding box_at
index_at (suc (suc (suc (suc (suc (suc k)))))) few = absurd (omega arith)
index_at k few = (box_at k, refl)

pub few_boxes : (b : Mailbox) → box_index b < 6
few_boxes Outbox = omega arith
few_boxes _ = omega arith

pub few_seats : (s : Who) → seat_index s < 5
few_seats Primary = omega arith
few_seats _ = omega arith

pub set_there : {A : Type 0} (l : List A) (i : ℕ) (a b : A) → get_elem? l i ≡ some a → get_elem? (set l i b) i ≡ some b
set_there [] i a b e = absurd (cc)
set_there (x ∷ xs) zero a b e = refl
set_there (x ∷ xs) (suc i) a b e = set_there xs i a b e

-- ---- a change of what is known that is one seat's own

pub record Local (s : Who) (turn : Knowledge → Knowledge) : Type 0 where
  pub generation : (k : Knowledge) → (turn k).generation ≡ k.generation
  pub own : (k l : Knowledge) → SamePart s k l → SamePart s (turn k) (turn l)
  pub rest : (n : Who) (k : Knowledge) → (n ≡ s → ⊥) → SamePart n (turn k) k

pub nothing : (s : Who) → Local s (λ k. k)
nothing s = record { generation = λ k. refl; own = λ k l e. e; rest = λ n k ne. refl }

-- the part of one seat is turned
abbrev turned : (s : Who) → (Part s → Part s) → Knowledge → Knowledge
turned Primary f k = record k { primary = f k.primary }
turned Link f k = record k { link = f k.link }
turned Backup f k = record k { backup = f k.backup }
turned Terminal f k = record k { terminal = f k.terminal }
turned Disk f k = record k { disk = f k.disk }

turned_is : (s : Who) (f : Part s → Part s) (k : Knowledge)
    → ((turned s f k).generation ≡ k.generation) × (part s (turned s f k) ≡ f (part s k))
turned_is Primary f k = (refl, refl)
turned_is _ f k = (refl, refl)

turned_rest : (s n : Who) (f : Part s → Part s) (k : Knowledge) → (n ≡ s → ⊥) → SamePart n (turned s f k) k
turned_rest Primary Primary f k ne = absurd (ne refl)
turned_rest Link Link f k ne = absurd (ne refl)
turned_rest Backup Backup f k ne = absurd (ne refl)
turned_rest Terminal Terminal f k ne = absurd (ne refl)
turned_rest Disk Disk f k ne = absurd (ne refl)
turned_rest _ _ f k ne = refl

pub on_part : (s : Who) (f : Part s → Part s) → Local s (turned s f)
on_part s f = record {
  generation = λ k. (turned_is s f k).0;
  own = λ k l e. (turned_is s f k).1 ∙ ap f e ∙ sym (turned_is s f l).1;
  rest = λ n k ne. turned_rest s n f k ne;
}

-- so whoever knew the same knows the same afterwards
pub local_both : (s n : Who) (turn : Knowledge → Knowledge) → Local s turn → (k l : Knowledge) → SamePart s k l → SamePart n k l
    → SamePart n (turn k) (turn l)
local_both s n turn z k l own e = dite (ℕ_discrete (seat_index n) (seat_index s))
    (λ q. subst (λ t. SamePart t (turn k) (turn l)) (sym (one_seat n s q)) (z.own k l own))
    (λ ne. let other : n ≡ s → ⊥ = λ q. ne (ap seat_index q) in z.rest n k other ∙ e ∙ sym (z.rest n l other))

-- ---- a change of the core that is one seat's own

-- a list is changed place by place, and only at these places
pub record Places {A : Type 0} (f : List A → List A) (at : ℕ → Type 0) : Type 0 where
  pub long : (l : List A) → length (f l) ≡ length l
  pub both : (l m : List A) (i : ℕ) → length l ≡ length m → get_elem? l i ≡ get_elem? m i
      → get_elem? (f l) i ≡ get_elem? (f m) i
  pub rest : (l : List A) (i : ℕ) → (at i → ⊥) → get_elem? (f l) i ≡ get_elem? l i

-- nothing is changed, or the value at one place
pub stays : {A : Type 0} (at : ℕ → Type 0) → Places {A = A} (λ l. l) at
stays at = record { long = λ l. refl; both = λ l m i long e. e; rest = λ l i ne. refl }

pub changes : {A : Type 0} (at : ℕ → Type 0) (k : ℕ) (d : A) (y : A → A) → at k → Places (λ l. set l k (y (get_or l k d))) at
changes at k d y here = record {
  long = λ l. length-set l k _;
  both = λ l m i long e. dite (ℕ_discrete i k)
      (λ q. set_both l m k i _ long e ∙ ap (λ x. get_elem? (set m k (y x)) i)
      (or_both l m k d (subst (λ j. get_elem? l j ≡ get_elem? m j) q e)))
      (λ ne. set_else l k i _ ne ∙ e ∙ sym (set_else m k i _ ne));
  rest = λ l i ne. set_else l k i _ (λ q. ne (subst at (sym q) here));
}

-- the places of a seat: in lists of seats, and of the boxes that it fills or empties
abbrev pub AtSeat : Who → ℕ → Type 0
AtSeat s i = i ≡ seat_index s

abbrev pub AtBox : (Mailbox → Who) → Who → ℕ → Type 0
AtBox who s i = (b : Mailbox) × (who b ≡ s) × (i ≡ box_index b)

-- sizes stay; whoever had the same part has the same afterwards, if the seat had; and every other part is as it was
pub record Owned (s : Who) (turn : Core → Core) : Type 0 where
  pub sized : (c : Core) → Sized c → Sized (turn c)
  pub both : (n : Who) (c d : Core) → Sized d → Same s c d → Same n c d → Same n (turn c) (turn d)
  pub rest : (n : Who) (c d : Core) → (n ≡ s → ⊥) → Same n c d → Same n c (turn d)

module _ (s : Who) (hands : List ℕ → List ℕ) (has_slot : List Bool → List Bool) (fills empties : List Side → List Side)
    (known : Knowledge → Knowledge) (h : Places hands (AtSeat s)) (a : Places has_slot (AtSeat s))
    (f : Places fills (AtBox filler s)) (e : Places empties (AtBox emptier s)) (l : Local s known) where
  abbrev turn : Core → Core
  turn c = record {
    hands = hands c.hands;
    has_slot = has_slot c.has_slot;
    fills = fills c.fills;
    empties = empties c.empties;
    known = known c.known;
  }

  other_box : (who : Mailbox → Who) (n : Who) (b : Mailbox) → (n ≡ s → ⊥) → who b ≡ n → AtBox who s (box_index b) → ⊥
  other_box who n b ne is at = ne (sym is ∙ ap who (one_box b at.0 at.2) ∙ at.1)

  turn_sized : (c : Core) → Sized c → Sized (turn c)
  turn_sized c z = record {
    hands = h.long c.hands ∙ z.hands;
    has_slot = a.long c.has_slot ∙ z.has_slot;
    fills = f.long c.fills ∙ z.fills;
    empties = e.long c.empties ∙ z.empties;
  }

  pub owned : Owned s turn
  owned = record {
    sized = turn_sized;
    both = λ n c d z own same. record {
      sized = turn_sized c same.sized;
      generation = l.generation c.known ∙ same.generation ∙ sym (l.generation d.known);
      hand = h.both c.hands d.hands (seat_index n) (same.sized.hands ∙ sym z.hands) same.hand;
      has_slot = a.both c.has_slot d.has_slot (seat_index n) (same.sized.has_slot ∙ sym z.has_slot) same.has_slot;
      fills = λ b is. f.both c.fills d.fills (box_index b) (same.sized.fills ∙ sym z.fills) (same.fills b is);
      empties = λ b is. e.both c.empties d.empties (box_index b) (same.sized.empties ∙ sym z.empties) (same.empties b is);
      known = local_both s n known l c.known d.known own.known same.known;
    };
    rest = λ n c d ne same. let at = λ (q : seat_index n ≡ seat_index s). ne (one_seat n s q) in record {
      sized = same.sized;
      generation = same.generation ∙ sym (l.generation d.known);
      hand = same.hand ∙ sym (h.rest d.hands (seat_index n) at);
      has_slot = same.has_slot ∙ sym (a.rest d.has_slot (seat_index n) at);
      fills = λ b is. same.fills b is ∙ sym (f.rest d.fills (box_index b) (other_box filler n b ne is));
      empties = λ b is. same.empties b is ∙ sym (e.rest d.empties (box_index b) (other_box emptier n b ne is));
      known = same.known ∙ sym (l.rest n d.known ne);
    };
  }

-- a seat fills a box, or empties it, or finds it empty
pub owned_fill : (b : Mailbox) (q : Payload) (r : ℕ) → Local (filler b) (after_fill b q) → Owned (filler b) (filled b q r)
owned_fill b q r = owned (filler b) _ _ _ _ _ (changes _ _ 0 (λ _. slot_of r) refl) (stays _)
    (changes _ (box_index b) new_side (λ z. side (z.number + 1) (filler_met (is_full r) r z.met) (Some q)) (b, refl, refl)) (stays _)

pub owned_empty : (b : Mailbox) (q : Payload) (r : ℕ) → Local (emptier b) (after_empty b q) → Owned (emptier b) (emptied b q r)
owned_empty b q r = owned (emptier b) _ _ _ _ _ (changes _ _ 0 (λ _. slot_of r) refl) (stays _) (stays _)
    (changes _ (box_index b) new_side (λ z. side (z.number + 1) (number_of r) (Some q)) (b, refl, refl))

pub owned_find : (b : Mailbox) (r : ℕ) → Owned (emptier b) (found_empty b r)
owned_find b r = owned (emptier b) _ _ _ _ _ (changes _ _ 0 (λ _. slot_of r) refl) (stays _) (stays _)
    (changes _ (box_index b) new_side (λ z. side (z.number + 1) z.met z.last) (b, refl, refl)) (nothing (emptier b))

-- it takes its first slot, or gives its last one back
pub owned_slot : (s : Who) (b : Bool) → Owned s (with_slot s b)
owned_slot s b = owned s _ _ _ _ _ (stays _) (changes _ _ false (λ _. b) refl) (stays _) (stays _) (nothing s)

-- what it knows changes alone
pub owned_known : (s : Who) (turn : Knowledge → Knowledge) → Local s turn → Owned s (with_known turn)
owned_known s turn = owned s _ _ _ _ _ (stays _) (stays _) (stays _) (stays _)

-- ---- whose each part of the core is

-- a view stands in place of another one, and both have a seat's part, or neither has it
pub has_set : (views : List SeatView) (core core' : Core) (n : Who) (at id : ℕ) (v w : SeatView) → Has views core n at
    → get_elem? views id ≡ some v → get_elem? w.mine (seat_index n) ≡ get_elem? v.mine (seat_index n)
    → (has v n → Same n v.core core → Same n w.core core') → ((x : Core) → at ≢ id → Same n x core → Same n x core')
    → Has (set views id w) core' n at
has_set views core core' n at id v w h here keeps both rest = record {
  here = dite (ℕ_discrete at id)
      (λ e. (
        w,
        ap (get_elem? (set views id w)) e ∙ set_there views id v w here,
        keeps ∙ (let q = h.here in subst (λ (x : SeatView). has x n)
            (some-injective q.0 v (sym q.1 ∙ ap (get_elem? views) e ∙ here)) q.2),
      ))
      (λ ne. (h.here.0, set_else views id at w ne ∙ h.here.1, h.here.2));
  only = λ j x ex hx. ⊎_elim
      (λ (t : (j ≡ id) × (w ≡ x)). let had : has v n = sym keeps ∙ subst (λ (y : SeatView). has y n) (sym t.1) hx in
      let p = h.only id v here had in (t.0 ∙ p.0, subst (λ (y : SeatView). Same n y.core core') t.1 (both had p.1)))
      (λ (t : (j ≢ id) × (get_elem? views j ≡ some x)). let p = h.only j x t.1 hx in
      (p.0, rest x.core (λ e. t.0 (p.0 ∙ e)) p.1))
      (at_set views id j w x ex);
}

-- one seat steps: each part is still at one seat
pub steps : (views : List SeatView) (core : Core) (s n : Who) (at : Who → ℕ) (id : ℕ) (v : SeatView) (turn : Core → Core)
    → Owned s turn → Sized core → ((t : Who) → Has views core t (at t)) → get_elem? views id ≡ some v → has v s
    → Has (set views id (record v { core = turn v.core })) (turn core) n (at n)
steps views core s n at id v turn o sized seats here mine = let own = (seats s).only id v here mine in
    has_set views core (turn core) n (at n) id v (record v { core = turn v.core }) (seats n) here refl
    (λ had e. o.both n v.core core sized own.1 e) (λ x off e. o.rest n x core (λ q. off (ap at q ∙ sym own.0)) e)
