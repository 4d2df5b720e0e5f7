-- The rule of the table.
use Rattle.std.specs.Prelude.{◌≡◌, ℕ, ◌+◌, ◌≤◌, true, false, List, [], ◌∷◌, ◌++◌, length, slice_index_or, Option, None}
use mathlib.Core.Option.{some}
use lib.ListN.{get_elem?}
use Rattle.atomic_table.specs.Table.{State}
use Rattle.pair_rule.specs.declared.mailbox.Mailbox.{Mailbox}
use Rattle.pair_rule.specs.declared.mailbox.Mailbox.TheVariants.{Requests, Answers}
use Rattle.pair_rule.specs.declared.payload.Packet.{Packet}
use Rattle.pair_rule.specs.declared.payload.Payload.{Payload}
use Rattle.pair_rule.specs.declared.view.PrimaryView.{PrimaryView}
use Rattle.pair_rule.specs.declared.view.BackupView.{BackupView}
use Rattle.pair_rule.specs.declared.view.TerminalView.{TerminalView}
use Rattle.pair_rule.specs.declared.view.DiskView.{DiskView}
use Rattle.pair_rule.specs.declared.view.Side.{Side}
use Rattle.pair_rule.specs.declared.view.Knowledge.{Knowledge}
use Rattle.pair_rule.specs.declared.view.Core.{Core}
use Rattle.pair_rule.specs.declared.view.SeatView.{SeatView}
use Rattle.pair_rule.specs.Boxes.{Homes, box_index, Who, Primary, Link, Backup, Terminal, Disk, seat_index, filler, emptier, side, Laid, Boxes}
pub use Rattle.pair_rule.specs.Histories.{first_known}
use Rattle.pair_rule.specs.Histories.{PlainRun}
use Rattle.pair_rule.specs.Knowledge.{words_of, Fits, WhereSome, Stands}

-- the part of what is known that is a seat's own
abbrev pub Part : Who → Type 0
Part Primary = PrimaryView
Part Link = Option Packet
Part Backup = BackupView
Part Terminal = TerminalView
Part Disk = DiskView

abbrev pub part : (s : Who) → Knowledge → Part s
part Primary k = k.primary
part Link k = k.link
part Backup k = k.backup
part Terminal k = k.terminal
part Disk k = k.disk

-- a seat knows the same
abbrev pub SamePart : Who → Knowledge → Knowledge → Type 0
SamePart s k l = part s k ≡ part s l

-- what all seats know at one moment, for a seat that knows its own part of it: what must hold of it does
pub record Moment (s : Who) (own all : Knowledge) : Type 0 where
  pub stands : Stands all
  pub ran : PlainRun all
  pub generation : own.generation ≡ all.generation
  pub same : SamePart s own all

-- five seats and six boxes
pub record Sized (c : Core) : Type 0 where
  pub hands : length c.hands ≡ 5
  pub has_slot : length c.has_slot ≡ 5
  pub fills : length c.fills ≡ 6
  pub empties : length c.empties ≡ 6

-- both have the same of a seat
pub record Same (s : Who) (c d : Core) : Type 0 where
  pub sized : Sized c
  pub generation : c.known.generation ≡ d.known.generation
  pub hand : get_elem? c.hands (seat_index s) ≡ get_elem? d.hands (seat_index s)
  pub has_slot : get_elem? c.has_slot (seat_index s) ≡ get_elem? d.has_slot (seat_index s)
  pub fills : (b : Mailbox) → filler b ≡ s → get_elem? c.fills (box_index b) ≡ get_elem? d.fills (box_index b)
  pub empties : (b : Mailbox) → emptier b ≡ s → get_elem? c.empties (box_index b) ≡ get_elem? d.empties (box_index b)
  pub known : SamePart s c.known d.known

-- a view has a seat's part
abbrev pub has : SeatView → Who → Type 0
has v s = get_elem? v.mine (seat_index s) ≡ some true

-- one seat of the table has this part of the core, and no other
pub record Has (views : List SeatView) (core : Core) (s : Who) (at : ℕ) : Type 0 where
  pub here : (v : SeatView) × (get_elem? views at ≡ some v) × has v s
  pub only : (j : ℕ) (v : SeatView) → get_elem? views j ≡ some v → has v s → (j ≡ at) × Same s v.core core

-- a side before any swap
abbrev pub new_side : Side
new_side = side 0 0 None

-- the side of a box, in the list of all
abbrev pub side_at : List Side → ℕ → Side
side_at sides b = slice_index_or sides b new_side

-- the primary has swapped once for each request, and the disk once for each answer; who takes them has met no fewer swaps than it
-- has taken
pub record Counted (fills empties : List Side) (asked takes given answers : ℕ) : Type 0 where
  pub asked_is : (side_at fills (box_index Requests)).number ≡ asked
  pub taken : takes ≤ (side_at empties (box_index Requests)).met
  pub given_is : (side_at fills (box_index Answers)).number ≡ given
  pub came : answers ≤ (side_at empties (box_index Answers)).met

-- so it is by what is known
abbrev pub CountedBy : List Side → List Side → Knowledge → Type 0
CountedBy fills empties k =
    Counted fills empties k.primary.asked k.disk.takes (length k.disk.given) (length k.primary.answers)

-- the rule without the seats: over words, slots and the core
pub record Facts (g : ℕ) (boxes : List ℕ) (homes : Homes) (c : Core) : Type 0 where
  pub generation : c.known.generation ≡ g
  pub sized : Sized c
  pub six : length boxes ≡ 6
  pub laid : Laid boxes c.hands c.has_slot homes
  pub boxed : Boxes boxes homes c.fills c.empties
  pub fitting : (b : Mailbox) (f : Side) → get_elem? c.fills (box_index b) ≡ some f → WhereSome f.last (Fits b c.known)
  pub counted : CountedBy c.fills c.empties c.known
  pub stands : Stands c.known
  pub ran : PlainRun c.known

-- the rule: words, views and slots of the table are those of one core
pub record Rule (g : ℕ) (s : State (Option Payload) SeatView) : Type 0 where
  pub core : Core
  pub boxes : List ℕ
  pub words : s.words ≡ words_of core.known ++ boxes
  pub at : Who → ℕ
  pub seats : (n : Who) → Has s.views core n (at n)
  pub facts : Facts g boxes s.homes core

-- the core of a new table if this is known, and the view that has all of it
abbrev pub core_of : Knowledge → Core
core_of k = record {
  hands = 6 ∷ 7 ∷ 8 ∷ 9 ∷ 10 ∷ [];
  has_slot = false ∷ false ∷ false ∷ false ∷ false ∷ [];
  fills = new_side ∷ new_side ∷ new_side ∷ new_side ∷ new_side ∷ new_side ∷ [];
  empties = new_side ∷ new_side ∷ new_side ∷ new_side ∷ new_side ∷ new_side ∷ [];
  known = k;
}

abbrev pub view_of : Knowledge → SeatView
view_of k = record { mine = true ∷ true ∷ true ∷ true ∷ true ∷ []; core = core_of k }

-- the same if nothing is known yet
abbrev pub first_core : ℕ → Core
first_core g = core_of (first_known g)

abbrev pub first_view : ℕ → SeatView
first_view g = view_of (first_known g)
