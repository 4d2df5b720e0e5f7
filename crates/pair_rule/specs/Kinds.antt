-- What each step tells its caller.
use Rattle.std.specs.Prelude.{◌≡◌, ℕ, ◌+◌, ◌<◌, ◌≤◌, Bool, true, false, List, [], ◌∷◌, length, Option, Some, None, ◌==◌, slice_set, slice_index_or}
use mathlib.Core.Option.{some}
use lib.ListN.{get_elem?}
use Rattle.atomic_table.specs.Table.{Me, rest}
use Rattle.pair_rule.specs.declared.mailbox.Mailbox.{Mailbox}
use Rattle.pair_rule.specs.declared.mailbox.Mailbox.TheVariants.{Outbox, Inbox, Bytes0, Bytes1, Requests, Answers}
use Rattle.pair_rule.specs.declared.payload.Payload.{Payload}
use Rattle.pair_rule.specs.declared.view.Side.{Side}
use Rattle.pair_rule.specs.declared.view.Knowledge.{Knowledge}
use Rattle.pair_rule.specs.declared.view.Core.{Core}
use Rattle.pair_rule.specs.declared.view.SeatView.{SeatView}
use Rattle.pair_rule.specs.Boxes.{box_index, Who, Primary, Link, Backup, Terminal, Disk, seat_index, slot_of, is_full, number_of, filler, emptier, filler_met, side}
use Rattle.pair_rule.specs.declared.payload.Packet.{Packet}
use Rattle.pair_rule.specs.declared.payload.Payload.TheVariants.{Log}
use Rattle.pair_rule.specs.Knowledge.{Fits, accepted_at, last_or, winner_of, after_fill, after_empty, appended, saw, held, primary_asked, backup_asked, byte_arrived, saw_count}
pub use Rattle.pair_rule.specs.Knowledge.{counted_at}
pub use Rattle.pair_rule.specs.Rules.{side_at}
use Rattle.pair_rule.specs.Rules.{Moment, first_view}

-- what a step finds and leaves with its seat: a view, and the slots that it holds
abbrev pub Mine : Type 0
Mine = Me (Option Payload) SeatView

-- the core after a box was filled in which this word was found
abbrev pub filled : Mailbox → Payload → ℕ → Core → Core
filled b q r c = record c {
  hands = slice_set c.hands (seat_index (filler b)) (slot_of r);
  fills = slice_set c.fills (box_index b) (side
      ((side_at c.fills (box_index b)).number + 1) (filler_met (is_full r) r (side_at c.fills (box_index b)).met)
      (Some q));
  known = after_fill b q c.known;
}

-- the core after a box was emptied: with what lay there, or with nothing
abbrev pub emptied : Mailbox → Payload → ℕ → Core → Core
emptied b q r c = record c {
  hands = slice_set c.hands (seat_index (emptier b)) (slot_of r);
  empties = slice_set c.empties (box_index b) (side ((side_at c.empties (box_index b)).number + 1) (number_of r) (Some q));
  known = after_empty b q c.known;
}

-- the same if the box was empty
abbrev pub found_empty : Mailbox → ℕ → Core → Core
found_empty b r c = record c {
  hands = slice_set c.hands (seat_index (emptier b)) (slot_of r);
  empties = slice_set c.empties (box_index b) (side
      ((side_at c.empties (box_index b)).number + 1) (side_at c.empties (box_index b)).met
      (side_at c.empties (box_index b)).last);
}

-- the core with what is known changed
abbrev pub with_known : (Knowledge → Knowledge) → Core → Core
with_known turn c = record c { known = turn c.known }

-- the view with its core changed
abbrev pub with_core : SeatView → Core → SeatView
with_core v c = record v { core = c }

-- after a swap with a word the seat has the slot that the word named
abbrev pub Swapped : ℕ → Mine → Type 0
Swapped r n = (x : Option Payload) × (n.1 ≡ (slot_of r, x) ∷ []) × (slot_of r < 11)

-- the payload is the one in the seat's slot
abbrev pub Filled : Mailbox → Mine → ℕ → Mine → Type 0
Filled b m r n =
    Swapped r n × ((h : ℕ) (q : Payload) → m.1 ≡ (h, Some q) ∷ [] → n.0 ≡ with_core m.0 (filled b q r m.0.core))

-- at the moment of the step this lay in the box, and fitted there
abbrev pub WasIn : Mailbox → Knowledge → Payload → Type 0
WasIn b own q = (all : Knowledge) × Moment (emptier b) own all × Fits b all q

-- what a seat that empties a box finds
abbrev pub Emptied : Mailbox → Mine → ℕ → Mine → Bool → Type 0
Emptied b m r n true =
    (q : Payload) × WasIn b m.0.core.known q × (n.1 ≡ (slot_of r, Some q) ∷ [])
    × ((side_at m.0.core.empties (box_index b)).met < number_of r) × (n.0 ≡ with_core m.0 (emptied b q r m.0.core))
Emptied b m r n false = n.0 ≡ with_core m.0 (found_empty b r m.0.core)

-- a fill and an emptying of the box at this word
abbrev pub fills : ℕ → Mine → ℕ → Mine → Type 0
fills word m r n = (b : Mailbox) → word ≡ 5 + box_index b → Filled b m r n

abbrev pub empties : ℕ → Mine → ℕ → Mine → Type 0
empties word m r n = (b : Mailbox) → word ≡ 5 + box_index b → Swapped r n × Emptied b m r n (is_full r)

-- ---- steps on the other words: word 0 the list's length, 1 what is acknowledged, 2 the winner, 3 and 4 the counts

-- the entry is the one of the packet in the seat's slot
abbrev pub appends : Mine → ℕ → Mine → Type 0
appends m r n =
    (r ≡ length m.0.core.known.primary.list) × (n.1 ≡ m.1)
    × ((h : ℕ) (p : Packet) → m.1 ≡ (h, Some (Log p)) ∷ [] → n.0 ≡ with_core m.0 (with_known (appended p.entry) m.0.core))

-- at the moment of the step the number was the last one acknowledged
abbrev pub WasHeld : Knowledge → ℕ → Type 0
WasHeld own r = (all : Knowledge) × Moment Primary own all × (r ≡ last_or 0 all.backup.held_values)

-- what was acknowledged is seen
abbrev pub sees : Mine → ℕ → Mine → Type 0
sees m r n =
    (n.1 ≡ m.1) × (m.0.core.known.primary.seen ≤ r) × (r ≤ length m.0.core.known.primary.list)
    × WasHeld m.0.core.known r × (n.0 ≡ with_core m.0 (with_known (saw r) m.0.core))

-- what the backup has is acknowledged
abbrev pub holds_entries : Mine → ℕ → Mine → Type 0
holds_entries m r n =
    (n.1 ≡ m.1) × (r ≤ length m.0.core.known.backup.list) × (n.0 ≡ with_core m.0 (with_known held m.0.core))

-- at the moment of the step this was the winner
abbrev pub WasWinner : Who → Knowledge → ℕ → Type 0
WasWinner who own r = (all : Knowledge) × Moment who own all × (r ≡ winner_of all.primary.winner all.backup.winner)

-- the primary asks, and the backup
abbrev pub contests_primary : Mine → ℕ → Mine → Type 0
contests_primary m r n =
    (n.1 ≡ m.1) × (r < 3) × WasWinner Primary m.0.core.known r
    × (n.0 ≡ with_core m.0 (with_known (primary_asked r) m.0.core))

abbrev pub contests_backup : Mine → ℕ → Mine → Type 0
contests_backup m r n =
    (n.1 ≡ m.1) × (r < 3) × WasWinner Backup m.0.core.known r
    × (n.0 ≡ with_core m.0 (with_known (backup_asked r) m.0.core))

-- the byte in hand arrives, and what is accepted is counted
abbrev pub counts : ℕ → Mine → ℕ → Mine → Type 0
counts port m r n = (n.1 ≡ m.1) × (n.0 ≡ with_core m.0 (with_known (byte_arrived port) m.0.core))

-- at the moment of the step this many bytes of the port were accepted
abbrev pub WasAccepted : ℕ → Knowledge → ℕ → Type 0
WasAccepted port own r = (all : Knowledge) × Moment Primary own all × (r ≡ accepted_at port all)

-- what is counted is seen
abbrev pub sees_count : ℕ → Mine → ℕ → Mine → Type 0
sees_count port m r n =
    (n.1 ≡ m.1) × (counted_at port m.0.core.known ≤ r) × WasAccepted port m.0.core.known r
    × (n.0 ≡ with_core m.0 (with_known (saw_count port r) m.0.core))

-- ---- a seat takes its first slot, puts its last one back, is split off, and is joined

-- a seat has its slot, or has none
abbrev pub with_slot : Who → Bool → Core → Core
with_slot s b c = record c { has_slot = slice_set c.has_slot (seat_index s) b }

-- a first slot is taken out of its home, and a last one put back
abbrev pub takes_first_slot : Who → Mine → ℕ → Mine → Type 0
takes_first_slot s m r n =
    ((h : ℕ) → get_elem? m.0.core.hands (seat_index s) ≡ some h → n.1 ≡ (h, None) ∷ m.1)
    × (n.0 ≡ with_core m.0 (with_slot s true m.0.core))

abbrev pub gives_last_slot : Who → Mine → ℕ → Mine → Type 0
gives_last_slot s m r n = (n.1 ≡ rest m.1) × (n.0 ≡ with_core m.0 (with_slot s false m.0.core))

-- no seat's part
abbrev pub nobody : List Bool
nobody = false ∷ false ∷ false ∷ false ∷ false ∷ []

-- a view without one seat's part, and a view of that alone
abbrev pub without : Who → SeatView → SeatView
without s v = record v { mine = slice_set v.mine (seat_index s) false }

abbrev pub only : Who → SeatView → SeatView
only s v = record v { mine = slice_set nobody (seat_index s) true }

-- the sides of the boxes that one seat fills or empties are the other core's
abbrev pub which : Bool → Side → Side → Side
which true a b = a
which false a b = b

-- of a box and a seat: the side of its own core, or that of the rest
abbrev pub pick : (Mailbox → Who) → Who → List Side → List Side → Mailbox → Side
pick who s own rest b = which (seat_index (who b) == seat_index s) (side_at own (box_index b)) (side_at rest (box_index b))

-- all six sides
abbrev pub mixed : (Mailbox → Who) → Who → List Side → List Side → List Side
mixed who s own rest =
    pick who s own rest Outbox ∷ pick who s own rest Inbox ∷ pick who s own rest Bytes0 ∷ pick who s own rest Bytes1
    ∷ pick who s own rest Requests ∷ pick who s own rest Answers ∷ []

-- what is known, with one seat's part from another
abbrev pub know_of : Who → Knowledge → Knowledge → Knowledge
know_of Primary own rest = record rest { primary = own.primary }
know_of Link own rest = record rest { link = own.link }
know_of Backup own rest = record rest { backup = own.backup }
know_of Terminal own rest = record rest { terminal = own.terminal }
know_of Disk own rest = record rest { disk = own.disk }

-- a core with one seat's part from another
abbrev pub part_of : Who → Core → Core → Core
part_of s own rest = record {
  hands = slice_set rest.hands (seat_index s) (slice_index_or own.hands (seat_index s) 0);
  has_slot = slice_set rest.has_slot (seat_index s) (slice_index_or own.has_slot (seat_index s) false);
  fills = mixed filler s own.fills rest.fills;
  empties = mixed emptier s own.empties rest.empties;
  known = know_of s own.known rest.known;
}

-- a view with one more seat's part, and what is left of the view that had it
abbrev pub with_part : Who → SeatView → SeatView → SeatView
with_part s v w = record { mine = slice_set v.mine (seat_index s) true; core = part_of s w.core v.core }

abbrev pub spent_view : SeatView
spent_view = record (first_view 0) { mine = nobody }

-- the counts are at words 3 and 4
abbrev pub counts_at : ℕ → Mine → ℕ → Mine → Type 0
counts_at word m r n = (port : ℕ) → port < 2 → word ≡ 3 + port → counts port m r n

abbrev pub sees_count_at : ℕ → Mine → ℕ → Mine → Type 0
sees_count_at word m r n = (port : ℕ) → port < 2 → word ≡ 3 + port → sees_count port m r n
