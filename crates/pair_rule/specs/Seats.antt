-- What a seat holds: its part of the core, one slot, and the numbers of its swaps.
use Rattle.std.specs.Prelude.{◌≡◌, ◌+◌, ℕ, ◌<◌, ◌≤◌, ◌^◌, ◌-◌, if◌then◌else◌, nat_lt, nat_le, Bool, true, List, [], ◌∷◌, length, map, Option, Some, None, slice_set}
use mathlib.Core.Option.{some}
use lib.ListN.{get_elem?}
use Rattle.event_callbacks.specs.declared.operations.Operation.{Operation}
use Rattle.event_callbacks.specs.declared.operations.Operation.TheVariants.{Byte}
use Rattle.i8080_words.specs.declared.refusal.Fault.{Fault}
use Rattle.i8080_words.specs.declared.refusal.Fault.TheVariants.{LogFull, Spent}
use Rattle.pair_protocol.specs.Lawful.{top}
use Rattle.std.specs.List.{list_all}
use Rattle.pair_rule.specs.declared.mailbox.Mailbox.{Mailbox}
use Rattle.pair_rule.specs.declared.mailbox.Mailbox.TheVariants.{Inbox}
use Rattle.pair_rule.specs.declared.payload.Packet.{Packet}
use Rattle.pair_rule.specs.declared.payload.Payload.{Payload}
use Rattle.pair_rule.specs.declared.payload.Payload.TheVariants.{Out}
use Rattle.pair_rule.specs.declared.payload.PortByte.{PortByte}
use Rattle.pair_rule.specs.declared.view.PrimaryView.{PrimaryView}
use Rattle.pair_rule.specs.declared.view.BackupView.{BackupView}
use Rattle.pair_rule.specs.declared.view.TerminalView.{TerminalView}
use Rattle.pair_rule.specs.declared.view.DiskView.{DiskView}
use Rattle.pair_rule.specs.declared.view.Knowledge.{Knowledge}
use Rattle.pair_rule.specs.declared.view.Side.{Side}
use Rattle.pair_rule.specs.declared.view.Core.{Core}
use Rattle.pair_rule.specs.Boxes.{Who, Primary, Link, Backup, Terminal, seat_index, box_index}
use Rattle.pair_rule.specs.Histories.{PlainRun}
pub use Rattle.pair_rule.specs.Knowledge.{Replies}
use Rattle.pair_rule.specs.Knowledge.{grown, accepted_after, last_or, winner_of, Stands}
use Rattle.atomic_table.specs.Seated.{TableId}
use Rattle.pair_rule.specs.Rules.{has, Sized, core_of}
use Rattle.pair_rule.specs.Kinds.{Mine, WasIn, with_slot, nobody, side_at, filled, emptied, found_empty}

-- a seat has its part, its slot, and one value in it
pub record Holds (s : Who) (me : Mine) (slot : ℕ) : Type 0 where
  pub mine : has me.0 s
  pub hand : get_elem? me.0.core.hands (seat_index s) ≡ some slot
  pub has_slot : get_elem? me.0.core.has_slot (seat_index s) ≡ some true
  pub one : (x : Option Payload) × (me.1 ≡ (slot, x) ∷ [])
  pub small : slot < 11
  pub sized : Sized me.0.core

-- the numbers of swaps of sides
abbrev pub numbers : List Side → List ℕ
numbers sides = map (λ (z : Side). z.number) sides

-- it has no other seat's part, and these are the numbers of its swaps
pub record Keeps (s : Who) (me : Mine) (slot : ℕ) (fills empties : List ℕ) : Type 0 where
  pub holds : Holds s me slot
  pub single : me.0.mine ≡ slice_set nobody (seat_index s) true
  pub fills_are : fills ≡ numbers me.0.core.fills
  pub empties_are : empties ≡ numbers me.0.core.empties

-- no swaps yet
abbrev pub zeros : List ℕ
zeros = 0 ∷ 0 ∷ 0 ∷ 0 ∷ 0 ∷ 0 ∷ []

-- a seat of a new table: it knows what is known when the table begins, and has no slot yet
pub record IsNew (s : Who) (k : Knowledge) (table id : TableId) (me : Mine) : Type 0 where
  pub same : id ≡ table
  pub bare : me.1 ≡ []
  pub single : me.0.mine ≡ slice_set nobody (seat_index s) true
  pub core : me.0.core ≡ core_of k

-- a seat at the start: it holds its slot, and knows what is known then
pub record Opened (s : Who) (k : Knowledge) (table id : TableId) (me : Mine) (slot : ℕ) (fills empties : List ℕ) : Type 0 where
  pub same : id ≡ table
  pub keeps : Keeps s me slot fills empties
  pub core : me.0.core ≡ with_slot s true (core_of k)

-- how often a seat may swap at one box
abbrev pub most_swaps : ℕ
most_swaps = 2 ^ 40

-- each number is below that
abbrev pub all_below : List ℕ → Bool
all_below ns = list_all (λ n. nat_lt n most_swaps) ns

-- a seat may swap once more at each of the six boxes
abbrev pub LeavesRoom : List Side → Type 0
LeavesRoom sides =
    ((side_at sides 0).number < 2 ^ 40) × ((side_at sides 1).number < 2 ^ 40) × ((side_at sides 2).number < 2 ^ 40)
    × ((side_at sides 3).number < 2 ^ 40) × ((side_at sides 4).number < 2 ^ 40) × ((side_at sides 5).number < 2 ^ 40)

-- at every box that it fills or empties
abbrev pub HasSwapsLeft : Core → Type 0
HasSwapsLeft c = LeavesRoom c.fills × LeavesRoom c.empties

-- ---- what contracts see of a seat: its table, and the core as it knows it

-- its table and the core
pub record Seat : Type 0 where
  pub table : TableId
  pub core : Core

-- the link has a packet in its hand, or none
pub record Carrier : Type 0 where
  pub table : TableId
  pub core : Core
  pub hand : Option Packet

-- the numbers that a primary keeps itself are those of its view
pub record IsPrimary (me : Mine) (slot : ℕ) (fills empties : List ℕ) (generation count seen : ℕ) : Type 0 where
  pub keeps : Keeps Primary me slot fills empties
  pub generation_is : generation ≡ me.0.core.known.generation
  pub count_is : count ≡ length me.0.core.known.primary.list
  pub seen_is : seen ≡ me.0.core.known.primary.seen
  pub seen_low : seen ≤ count

-- the packet in the link's hand is the one that it took out last
pub record IsLink (me : Mine) (slot : ℕ) (fills empties : List ℕ) (hand : Option Packet) : Type 0 where
  pub keeps : Keeps Link me slot fills empties
  pub hand_is : (p : Packet) → hand ≡ Some p → me.0.core.known.link ≡ Some p

-- the number that a backup keeps itself is that of its view; each taking of a packet has added one entry to the list at most
pub record IsBackup (me : Mine) (slot : ℕ) (fills empties : List ℕ) (count : ℕ) : Type 0 where
  pub keeps : Keeps Backup me slot fills empties
  pub count_is : count ≡ length me.0.core.known.backup.list
  pub count_low : count ≤ (side_at me.0.core.empties (box_index Inbox)).number
  pub few_packets : (side_at me.0.core.empties (box_index Inbox)).number ≤ 2 ^ 40

-- what the terminals keep themselves is what their view says
pub record IsTerminal (me : Mine) (slot : ℕ) (fills empties : List ℕ) (hand0 : Option Operation) (accepted0 : ℕ)
    (hand1 : Option Operation) (accepted1 : ℕ) : Type 0 where
  pub keeps : Keeps Terminal me slot fills empties
  pub hand0_is : hand0 ≡ me.0.core.known.terminal.hand0
  pub hand1_is : hand1 ≡ me.0.core.known.terminal.hand1
  pub accepted0_is : accepted0 ≡ accepted_after 0 me.0.core.known.terminal.arrivals0
  pub accepted1_is : accepted1 ≡ accepted_after 0 me.0.core.known.terminal.arrivals1

-- why a primary appends nothing: as many entries as a log holds are past what it has seen, or the indexes are spent
abbrev pub append_refusal : PrimaryView → Option Fault
append_refusal p =
    if nat_le 256 (length p.list - p.seen) then Some LogFull
    else if nat_le top (length p.list) then Some Spent
    else None

-- ---- what a seat that swapped tells

-- of a seat's sides: how often it has swapped at a box, the other side's number as last found, and what it put in or
-- took out last
abbrev pub swaps_at : List Side → Mailbox → ℕ
swaps_at sides b = (side_at sides (box_index b)).number

abbrev pub met_at : List Side → Mailbox → ℕ
met_at sides b = (side_at sides (box_index b)).met

abbrev pub last_at : List Side → Mailbox → Option Payload
last_at sides b = (side_at sides (box_index b)).last

-- a byte that arrived, as an operation of its port
abbrev pub byte_of : ℕ → PortByte → Payload
byte_of port b = Out (Byte port b.number b.byte)

-- the backup after a packet arrived, or none
abbrev pub with_packet : BackupView → Option Packet → BackupView
with_packet b None = b
with_packet b (Some p) = grown b p

-- it filled a box: it swapped once more there, and this is what it put in last
abbrev pub Fills : Mailbox → Payload → Core → Core → Type 0
Fills b q old new =
    ((r : ℕ) × (new ≡ filled b q r old)) × (swaps_at new.fills b ≡ swaps_at old.fills b + 1)
    × (last_at new.fills b ≡ Some q)

-- it emptied a box: it swapped once more there, and it found something exactly if it found a new number
abbrev pub Empties : Mailbox → Option Payload → Core → Core → Type 0
Empties b (Some q) old new =
    WasIn b old.known q × ((r : ℕ) × (new ≡ emptied b q r old))
    × (swaps_at new.empties b ≡ swaps_at old.empties b + 1) × (met_at old.empties b < met_at new.empties b)
Empties b None old new =
    ((r : ℕ) × (new ≡ found_empty b r old)) × (swaps_at new.empties b ≡ swaps_at old.empties b + 1)
    × (met_at new.empties b ≡ met_at old.empties b)

-- the words, and what the seats know, are those of one moment, to which the steps of the table led; the disk has taken no
-- more requests than were made, and the primary no more answers than were given
pub record Settled (primary : PrimaryView) (backup : BackupView) (terminal : TerminalView) (disk : DiskView)
    (tail held winner : ℕ) : Type 0 where
  pub known : Knowledge
  pub stands : Stands known
  pub ran : PlainRun known
  pub primary_is : known.primary ≡ primary
  pub backup_is : known.backup ≡ backup
  pub terminal_is : known.terminal ≡ terminal
  pub disk_is : known.disk ≡ disk
  pub tail_is : tail ≡ length primary.list
  pub held_is : held ≡ last_or 0 backup.held_values
  pub winner_is : winner ≡ winner_of primary.winner backup.winner
  pub taken : known.disk.takes ≤ known.primary.asked
  pub came : length known.primary.answers ≤ length known.disk.given
