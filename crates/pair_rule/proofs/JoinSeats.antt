-- Seats are joined into the primary's, and what is known at the end is of one moment.
use Rattle.std.proofs.Common.{◌≡◌, ◌≢◌, ℕ, ◌≤◌, eqb, Bool, true, false, List, ◌++◌, length, set, sym, refl, ap, ◌∙◌, subst, ⊎_elim, arith, length-set, eq-eqb, ne_eqb, Option}
use mathlib.Core.Option.{some}
use mathlib.Core.Logic.{dite}
use native.Mathlib.Decide.{ℕ_discrete}
use lib.ListN.{get_elem?}
use Rattle.pair_rule.proofs.Words.{Answers, Backup, Boxed, Core, Disk, Facts, Final, Has, Homes, Joins, Knowledge, Link, Mailbox, Outbox, Payload, PlainRun, Primary, Requests, Rule, Same, SamePart, SeatView, Seen, Side, Sized, Stands, Terminal, Who, at_set, box_index, emptier, filler, has, is_full, know_of, mixed, new_side, part_of, seat_index, set_else, set_here, side_at, spent_view, which, with_part, words_of}
use Rattle.pair_rule.proofs.Slots.{at_or}
use Rattle.pair_rule.proofs.Parts.{Local, has_set, on_part, one_seat, few_boxes, few_seats, set_there}
use Rattle.pair_rule.proofs.BoxSwaps.{Table, box, here as box_word}
use Rattle.pair_rule.proofs.BoxSteps.{own}
use Rattle.pair_rule.proofs.SplitSeats.{no_true, nobody_has}

at_mixed : (who : Mailbox → Who) (s : Who) (own rest : List Side) (b : Mailbox)
    → get_elem? (mixed who s own rest) (box_index b) ≡ some
    (which (eqb (seat_index (who b)) (seat_index s)) (side_at own (box_index b)) (side_at rest (box_index b)))
at_mixed who s own rest Outbox = refl
at_mixed who s own rest _ = refl

mixed_own : (who : Mailbox → Who) (s : Who) (own rest : List Side) (b : Mailbox) → length own ≡ 6 → who b ≡ s
    → get_elem? (mixed who s own rest) (box_index b) ≡ get_elem? own (box_index b)
mixed_own who s own rest b six is = at_mixed who s own rest b ∙ ap
    (λ (z : Bool). some (which z (side_at own (box_index b)) (side_at rest (box_index b))))
    (eq-eqb (seat_index (who b)) (seat_index s) (ap seat_index is)) ∙ sym
    (at_or own (box_index b) new_side (let few = few_boxes b in omega arith))

mixed_rest : (who : Mailbox → Who) (s : Who) (own rest : List Side) (b : Mailbox) → length rest ≡ 6
    → seat_index (who b) ≢ seat_index s → get_elem? (mixed who s own rest) (box_index b) ≡ get_elem? rest (box_index b)
mixed_rest who s own rest b six ne = at_mixed who s own rest b ∙ ap
    (λ (z : Bool). some (which z (side_at own (box_index b)) (side_at rest (box_index b))))
    (ne_eqb (seat_index (who b)) (seat_index s) ne) ∙ sym
    (at_or rest (box_index b) new_side (let few = few_boxes b in omega arith))

know_local : (s : Who) (own : Knowledge) → Local s (know_of s own)
know_local Primary own = on_part Primary (λ _. own.primary)
know_local Link own = on_part Link (λ _. own.link)
know_local Backup own = on_part Backup (λ _. own.backup)
know_local Terminal own = on_part Terminal (λ _. own.terminal)
know_local Disk own = on_part Disk (λ _. own.disk)

know_own : (s : Who) (own rest : Knowledge) → SamePart s (know_of s own rest) own
know_own Primary own rest = refl
know_own _ own rest = refl

module _ (s : Who) (own rest core : Core) (z : Sized rest) (same : rest.known.generation ≡ core.known.generation) where
  part_sized : Sized (part_of s own rest)
  part_sized = record {
    hands = length-set rest.hands (seat_index s) _ ∙ z.hands;
    has_slot = length-set rest.has_slot (seat_index s) _ ∙ z.has_slot;
    fills = refl;
    empties = refl;
  }

  part_own : Same s own core → Same s (part_of s own rest) core
  part_own e = let few = few_seats s in record {
    sized = part_sized;
    generation = (know_local s own.known).generation rest.known ∙ same;
    hand = set_here rest.hands (seat_index s) _ (let a = z.hands in omega arith) ∙ sym
        (at_or own.hands (seat_index s) 0 (let a = e.sized.hands in omega arith)) ∙ e.hand;
    has_slot = set_here rest.has_slot (seat_index s) _ (let a = z.has_slot in omega arith) ∙ sym
        (at_or own.has_slot (seat_index s) false (let a = e.sized.has_slot in omega arith)) ∙ e.has_slot;
    fills = λ b is. mixed_own filler s own.fills rest.fills b e.sized.fills is ∙ e.fills b is;
    empties = λ b is. mixed_own emptier s own.empties rest.empties b e.sized.empties is ∙ e.empties b is;
    known = know_own s own.known rest.known ∙ e.known;
  }

  part_rest : (n : Who) → (seat_index n ≢ seat_index s) → Same n rest core → Same n (part_of s own rest) core
  part_rest n ne e = record {
    sized = part_sized;
    generation = (know_local s own.known).generation rest.known ∙ same;
    hand = set_else rest.hands (seat_index s) (seat_index n) _ ne ∙ e.hand;
    has_slot = set_else rest.has_slot (seat_index s) (seat_index n) _ ne ∙ e.has_slot;
    fills = λ b is. mixed_rest filler s own.fills rest.fills b z.fills (λ q. ne (ap seat_index (sym is) ∙ q)) ∙ e.fills b is;
    empties = λ b is. mixed_rest emptier s own.empties rest.empties b z.empties (λ q. ne (ap seat_index (sym is) ∙ q))
        ∙ e.empties b is;
    known = (know_local s own.known).rest n rest.known (λ q. ne (ap seat_index q)) ∙ e.known;
  }

module _ (views : List SeatView) (core : Core) (at : Who → ℕ) (seats : (n : Who)
    → Has views core n (at n)) (id i : ℕ) (v w : SeatView) (s : Who)
    (here : get_elem? views id ≡ some v) (apart : i ≢ id) (there : get_elem? views i ≡ some w) (leads : has v Primary)
    (lacks : get_elem? v.mine (seat_index s) ≡ some false) (mine : has w s)
    (single : (n : Who) → (seat_index n ≢ seat_index s) → get_elem? w.mine (seat_index n) ≡ some false) where
  abbrev joined : SeatView
  joined = with_part s v w

  abbrev after : List SeatView
  after = set (set views id joined) i spent_view

  lead : Same Primary v.core core
  lead = ((seats Primary).only id v here leads).1

  join_own : Has after core s id
  join_own = let e = (seats s).only i w there mine in record {
    here = (
      joined,
      set_else (set views id joined) i id spent_view (λ q. apart (sym q)) ∙ set_there views id v joined here,
      set_there v.mine (seat_index s) false true lacks,
    );
    only = λ j x ex hx. ⊎_elim
        (λ (t : (j ≡ i) × (spent_view ≡ x)). no_true (nobody_has s) (subst (λ (z : SeatView). has z s) (sym t.1) hx))
        (λ (t : (j ≢ i) × (get_elem? (set views id joined) j ≡ some x)). ⊎_elim
        (λ (u : (j ≡ id) × (joined ≡ x)). (
          u.0,
          subst (λ (z : SeatView). Same s z.core core) u.1
              (part_own s w.core v.core core lead.sized lead.generation e.1),
        ))
        (λ (u : (j ≢ id) × (get_elem? views j ≡ some x)). absurd (t.0 (((seats s).only j x u.1 hx).0 ∙ sym e.0)))
        (at_set views id j joined x t.1))
        (at_set (set views id joined) i j spent_view x ex);
  }

  join_other : (n : Who) → (seat_index n ≢ seat_index s) → Has after core n (at n)
  join_other n ne = has_set (set views id joined) core core n (at n) i w spent_view
      (has_set views core core n (at n) id v joined (seats n) here (set_else v.mine (seat_index s) (seat_index n) true ne)
      (λ had e. part_rest s w.core v.core core lead.sized lead.generation n ne e) (λ x off e. e))
      (set_else views id i joined apart ∙ there) (nobody_has n ∙ sym (single n ne)) (λ had e. no_true (single n ne) had)
      (λ x off e. e)

  join_seat : (n : Who) → (k : ℕ) × Has after core n k
  join_seat n = dite (ℕ_discrete (seat_index n) (seat_index s))
      (λ e. (id, subst (λ t. Has after core t id) (sym (one_seat n s e)) join_own)) (λ ne. (at n, join_other n ne))

pub joins : (g id : ℕ) (v : SeatView) (i : ℕ) (w : SeatView) (s : Who) → has v Primary
    → get_elem? v.mine (seat_index s) ≡ some false → has w s
    → ((n : Who) → (seat_index n ≢ seat_index s) → get_elem? w.mine (seat_index n) ≡ some false)
    → Joins (Rule g) id v i w (with_part s v w) spent_view
joins g id v i w s leads lacks mine single st r here apart there =
    let there' : get_elem? st.views i ≡ some w = sym (set_else st.views id i (with_part s v w) apart) ∙ there in record {
      core = r.core;
      boxes = r.boxes;
      words = r.words;
      at = λ n. (join_seat st.views r.core r.at r.seats id i v w s here apart there' leads lacks mine single n).0;
      seats = λ n. (join_seat st.views r.core r.at r.seats id i v w s here apart there' leads lacks mine single n).1;
      facts = r.facts;
    }

-- who empties a box has met no more swaps than who fills it has made
met_low : (word : ℕ) (homes : Homes) (f e : Side) (full : Bool) → Boxed word homes f e full → e.met ≤ f.number
met_low word homes f e true box = (let less = box.1 in omega (arith, less))
met_low word homes f e false box = (let same = box.1 in omega (arith, same))

module _ (g : ℕ) (boxes : List ℕ) (homes : Homes) (c : Core) (f : Facts g boxes homes c) where
  met : (b : Mailbox) → (side_at c.empties (box_index b)).met ≤ (side_at c.fills (box_index b)).number
  met b = met_low (box_word g boxes homes c f b 0) homes (side_at c.fills (box_index b)) (side_at c.empties (box_index b))
      (is_full (box_word g boxes homes c f b 0)) (box g boxes homes c f b 0)

  -- so no more was taken than was there
  all_taken : c.known.disk.takes ≤ c.known.primary.asked
  all_taken = (let t = f.counted.taken in let a = f.counted.asked_is in let m = met Requests in omega (arith, t, a, m))

  all_came : length c.known.primary.answers ≤ length c.known.disk.given
  all_came = (let t = f.counted.came in let a = f.counted.given_is in let m = met Answers in omega (arith, t, a, m))

-- the last words, and what a seat that has every part knows, are those of one moment: the words are those that it gives
pub settles : (g id : ℕ) (v : SeatView) (ws : List ℕ) (xs : List (Option Payload)) → has v Primary → has v Backup → has v Terminal
    → has v Disk → Final (Seen (Rule g) id v) ws xs
    → (k : Knowledge) × Stands k × PlainRun k × (k.primary ≡ v.core.known.primary) × (k.backup ≡ v.core.known.backup) ×
    (k.terminal ≡ v.core.known.terminal) × (k.disk ≡ v.core.known.disk) × ((boxes : List ℕ) × (ws ≡ words_of k ++ boxes))
    × (k.disk.takes ≤ k.primary.asked) × (length k.primary.answers ≤ length k.disk.given)
settles g id v ws xs p b t d f = let st : Table = f.0 in let r : Rule g st = f.1.0 in let at = f.1.1 in (
  r.core.known,
  r.facts.stands,
  r.facts.ran,
  sym ((r.seats Primary).only id v at p).1.known,
  sym ((r.seats Backup).only id v at b).1.known,
  sym ((r.seats Terminal).only id v at t).1.known,
  sym ((r.seats Disk).only id v at d).1.known,
  (r.boxes, sym f.2 ∙ r.words),
  all_taken g r.boxes st.homes r.core r.facts,
  all_came g r.boxes st.homes r.core r.facts,
)
