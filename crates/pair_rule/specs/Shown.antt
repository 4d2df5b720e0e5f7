-- The world that the core stands for: a primary that has the list and is at its last count, a backup that holds its copy,
-- and what was sent, accepted and written. Both log the sectors that the primary reads with their bytes.
use Rattle.std.specs.Prelude.{◌≡◌, ◌⊎◌, ◌<◌, length, ℕ, zero, suc, Bool, true, false, Option, Some, None, List, [], ◌∷◌, ◌++◌, map, slice_get}
use Rattle.event_callbacks.specs.declared.operations.Operation.{Operation}
use Rattle.guest_lockstep.specs.Machine.{Machine, Move, Do, Take}
use Rattle.guest_lockstep.specs.Recorded.{Recorded}
use Rattle.guest_lockstep.specs.declared.reads.Reads.TheVariants.{Logged}
use Rattle.log_entry.specs.Entries.{entries, entry_of, inputs_of, last_count, marks}
use Rattle.log_entry.specs.declared.entry.Entry.{Entry}
use Rattle.guest_lockstep.specs.Reach.{operations}
use Rattle.shared_disk.specs.declared.disk.SectorRead as disk
use Rattle.pair_protocol.specs.Lawful.{Among, IsDone}
use Rattle.pair_protocol.specs.Copying.{Copying}
use Rattle.pair_events.specs.declared.event.Event.{Event}
use Rattle.pair_protocol.specs.Reply.{Reply}
use Rattle.pair_protocol.specs.Row.{Row}
use Rattle.pair_protocol.specs.Node.{Node, Note, Role, Primary, Backup, Draining, Alone, blank, notes_after}
use Rattle.pair_protocol.specs.World.{World, Message, LogEntry, Acknowledgement, ImagePart, Released, WriteDone, SectorRead, Terminal, Arrival, Winner}
use Rattle.pair_rule.specs.declared.payload.DiskAnswer.TheVariants.{Written, Read}
use Rattle.disk_dcdd.specs.declared.sector.SectorWrite.{SectorWrite}
use Rattle.pair_rule.specs.declared.payload.DiskAnswer.{DiskAnswer}
use Rattle.pair_rule.specs.declared.view.Arrived.{Arrived}
use Rattle.pair_rule.specs.declared.view.BackupView.{BackupView}
use Rattle.pair_rule.specs.declared.view.Knowledge.{Knowledge}
use Rattle.shared_disk.specs.Arrivals.{read_address}
use Rattle.pair_rule.specs.Knowledge.{winner_of, HasWrite}

-- what each operation of moves waits for, at a primary with this count, this log and these notes
abbrev pub notes_from : ℕ → List Entry → List Note → List Move → List Note
notes_from count log notes [] = notes
notes_from count log notes (Do gives ∷ moves) =
    notes_from (suc count) (log ++ marks (suc count) gives) (notes_after notes log gives) moves
notes_from count log notes (Take i ∷ moves) = notes_from count (log ++ entry_of Logged count i ∷ []) notes moves

-- what a world shows of what is known: all but what is in a hand, on its way, or only counted
pub record Visible : Type 0 where
  pub list : List Entry
  pub seen : ℕ
  pub winner : ℕ
  pub released : List Operation
  pub backup : BackupView
  pub arrivals0 : List Arrived
  pub arrivals1 : List Arrived
  pub puts : List SectorWrite
  pub given : List DiskAnswer

abbrev pub visible : Knowledge → Visible
visible k = record {
  list = k.primary.list;
  seen = k.primary.seen;
  winner = k.primary.winner;
  released = k.primary.released;
  backup = k.backup;
  arrivals0 = k.terminal.arrivals0;
  arrivals1 = k.terminal.arrivals1;
  puts = k.disk.puts;
  given = k.disk.given;
}

-- ---- the nodes: a seat whose view names a winner has the role that its asking gave

-- a primary that asked and has won is alone, one that lost is halted; a backup that won drains
abbrev pub primary_role : ℕ → Role
primary_role (suc zero) = Alone
primary_role _ = Primary

abbrev pub primary_runs : ℕ → Bool
primary_runs zero = true
primary_runs (suc zero) = true
primary_runs (suc (suc n)) = false

abbrev pub backup_role : ℕ → Role
backup_role (suc (suc n)) = Draining
backup_role _ = Backup

abbrev pub backup_runs : ℕ → Bool
backup_runs (suc zero) = false
backup_runs _ = true

-- the primary has the list, is at its last count, and is covered up to what it has seen; the backup holds its list
abbrev pub primary_node : {S : Type 0} → Visible → List Move → S → Node S
primary_node v moves s = record (blank (primary_role v.winner) 1 Logged s) {
  running = primary_runs v.winner;
  list = inputs_of v.list;
  log = v.list;
  covered = v.seen;
  notes = notes_from 0 [] [] moves;
}

abbrev pub backup_node : {S : Type 0} → Machine S → Visible → Node S
backup_node M v = record (blank (backup_role v.backup.winner) 1 Logged M.boot) {
  running = backup_runs v.backup.winner;
  held = v.backup.list;
}

-- ---- the rest of the world

-- the terminals have the arrivals of their view
abbrev pub arrival_of : Arrived → Arrival
arrival_of a = record { number = a.number; byte = a.byte }

abbrev pub terminals_of : Visible → List ℕ → List ℕ → List Terminal
terminals_of v typed0 typed1 =
    record { arrivals = map arrival_of v.arrivals0; typed = typed0; told = 0 }
    ∷ record { arrivals = map arrival_of v.arrivals1; typed = typed1; told = 0 } ∷ []

-- the winner
abbrev pub winners_of : ℕ → List Winner
winners_of zero = []
winners_of (suc zero) = record { generation = 1; node = 0 } ∷ []
winners_of (suc (suc n)) = record { generation = 1; node = 1 } ∷ []

-- of the messages: which there are
pub record Sent (v : Visible) (messages : List Message) : Type 0 where
  pub logs : (i : ℕ) (e : Entry) → slice_get v.list i ≡ Some e → Among (LogEntry 1 i e) messages
  pub acks : (h : ℕ) → Among h v.backup.held_values → Among (Acknowledgement 1 h 0) messages
  pub operations : (o : Operation) → Among o v.released → Among (Released o) messages
  pub writes : (n : ℕ) → Among (Written n) v.given → Among (WriteDone n) messages

-- a log packet that was sent is that entry of the list, and an acknowledgement is one of the values of held
abbrev pub IsSentBy : List Entry → List ℕ → Message → Type 0
IsSentBy list helds (LogEntry generation i e) = (generation ≡ 1) × (slice_get list i ≡ Some e)
IsSentBy list helds (Acknowledgement generation held replayed) = (generation ≡ 1) × (replayed ≡ 0) × Among held helds
IsSentBy list helds (ImagePart generation i part) = ⊥
IsSentBy list helds (Released o) = Unit {0}
IsSentBy list helds (WriteDone n) = Unit {0}
IsSentBy list helds (SectorRead address n bytes) = Unit {0}

-- a step of the moves gave the operation, and its mark is one of the entries that are acknowledged
pub record IsAcknowledged (moves : List Move) (seen : ℕ) (o : Operation) : Type 0 where
  pub front : List Move
  pub rest : List Move
  pub given : moves ≡ front ++ Do (Some o) ∷ rest
  pub marked : length (entries Logged 0 front) < seen

-- the world is shown by what is visible
pub record ShowsVisible {S : Type 0} (M : Machine S) (typed0 typed1 : List ℕ) (v : Visible) (w : World S) : Type 0 where
  pub moves : List Move
  pub s : S
  pub recorded : Recorded M M.boot moves s
  pub entries_are : entries Logged 0 moves ≡ v.list
  pub count : M.count s ≡ last_count 0 v.list
  pub nodes : w.nodes ≡ primary_node v moves s ∷ backup_node M v ∷ []
  pub sent : Sent v w.messages
  pub only : (m : Message) → Among m w.messages → IsSentBy v.list v.backup.held_values m
  pub terminals : w.terminals ≡ terminals_of v typed0 typed1
  pub winners : w.winners ≡ winners_of (winner_of v.winner v.backup.winner)
  pub puts : w.puts ≡ v.puts
  -- what was released was given by a step; a write that is done was put; and a sector that the disk read before any
  -- write has the bytes that it booted with
  pub issued : (o : Operation) → Among o v.released → Among o (operations moves)
  pub done : (n : ℕ) → IsDone n moves → HasWrite v.puts n
  -- output rule: whatever was released is acknowledged
  pub covered : (o : Operation) → Among o v.released → IsAcknowledged moves v.seen o
  pub first_reads : (r : disk.SectorRead) → Among (Read r) v.given → r.number ≡ 0 → r.bytes ≡ M.boot_sector (read_address r)

-- and so it is by what is known
abbrev pub Shows : {S : Type 0} → Machine S → List ℕ → List ℕ → Knowledge → World S → Type 0
Shows M typed0 typed1 k w = ShowsVisible M typed0 typed1 (visible k) w

-- events of a pair, one after another
pub data Happens {S : Type 0} (M : Machine S) (C : Copying S) : World S → List Event → List Reply → World S → Type 0 where
  Nothing : {w : World S} → Happens M C w [] [] w
  First : {w mid new : World S} {e : Event} {events : List Event} {r : Reply} {replies : List Reply} →
      Row M C w e r mid → Happens M C mid events replies new → Happens M C w (e ∷ events) (r ∷ replies) new

-- events of this form lead from one world to a world that shows what is known then
pub record Leads {S : Type 0} (M : Machine S) (C : Copying S) (typed0 typed1 : List ℕ) (k : Knowledge) (w : World S)
    (Form : List Event → Type 0) : Type 0 where
  pub events : List Event
  pub formed : Form events
  pub replies : List Reply
  pub new : World S
  pub run : Happens M C w events replies new
  -- nobody wins, or there is one event alone
  pub once : (new.winners ≡ w.winners) ⊎ ((e : Event) × (r : Reply) × Row M C w e r new)
  pub shows : Shows M typed0 typed1 k new

-- the byte of a port that its terminal has in hand
abbrev pub hand_of : ℕ → Knowledge → Option Operation
hand_of zero k = k.terminal.hand0
hand_of (suc p) k = k.terminal.hand1
