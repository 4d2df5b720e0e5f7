-- The world of a pair: its nodes, every message ever sent, the terminals, the shared disk, and who won.
use Rattle.std.specs.Prelude.{ℕ, ◌+◌, max, ◌==◌, nat_lt, if◌then◌else◌, Option, Some, None, List, [], ◌∷◌, ◌++◌, slice_set, slice_index_or}
use Rattle.disk_dcdd.specs.Address.{address_of, same_address}
use Rattle.disk_dcdd.specs.declared.address.SectorAddress.{SectorAddress}
use Rattle.disk_dcdd.specs.declared.sector.SectorWrite.{SectorWrite}
use Rattle.event_callbacks.specs.declared.operations.Operation.{Operation}
use Rattle.guest_lockstep.specs.Machine.{Machine}
use Rattle.guest_lockstep.specs.declared.reads.Reads.{Reads}
use Rattle.log_entry.specs.declared.entry.Entry.{Entry}
use Rattle.pair_protocol.specs.Copying.{Copying}
use Rattle.pair_protocol.specs.Node.{Node, Primary, Backup, first_node, spare, begun, joiner, wins}

-- what was sent; a link loses, repeats and reorders messages, and alters none
pub data Message : Type 0 where
  -- a log entry of a generation, with its index
  LogEntry : (generation index : ℕ) (entry : Entry) → Message
  -- a backup of a generation holds this many entries, and has replayed at least this many of them
  Acknowledgement : (generation held replayed : ℕ) → Message
  -- a part of the image that a generation began with
  ImagePart : (generation index : ℕ) (part : List ℕ) → Message
  -- an operation that a node released
  Released : (operation : Operation) → Message
  -- the disk's answers: a write is done; a sector was read
  WriteDone : (number : ℕ) → Message
  SectorRead : (address : SectorAddress) (number : ℕ) (bytes : List ℕ) → Message

-- a byte that arrived at a terminal, with its number
pub record Arrival : Type 0 where
  pub number : ℕ
  pub byte : ℕ

-- a terminal: all arrivals, all bytes typed, and how many of the latter it was told are covered
pub record Terminal : Type 0 where
  pub arrivals : List Arrival
  pub typed : List ℕ
  pub told : ℕ

-- the first node of a generation to ask the arbiter
pub record Winner : Type 0 where
  pub generation : ℕ
  pub node : ℕ

pub record World (S : Type 0) : Type 0 where
  pub nodes : List (Node S)
  pub messages : List Message
  pub terminals : List Terminal
  pub winners : List Winner
  -- the writes that arrived at the disk
  pub puts : List SectorWrite

-- ---- the terminals

abbrev pub no_terminal : Terminal
no_terminal = record { arrivals = []; typed = []; told = 0 }

abbrev pub terminal_in : List Terminal → ℕ → Terminal
terminal_in terminals port = slice_index_or terminals port no_terminal

abbrev pub terminal : {S : Type 0} → World S → ℕ → Terminal
terminal w port = terminal_in w.terminals port

-- the bytes accepted after the first n: byte n + 1 at its first arrival, and then the next
abbrev pub accepted_after : ℕ → List Arrival → List ℕ
accepted_after n [] = []
accepted_after n (a ∷ arrivals) =
    if a.number == n + 1 then a.byte ∷ accepted_after (n + 1) arrivals else accepted_after n arrivals

abbrev pub accepted_in : List Terminal → ℕ → List ℕ
accepted_in terminals port = accepted_after 0 (terminal_in terminals port).arrivals

abbrev pub accepted : {S : Type 0} → World S → ℕ → List ℕ
accepted w port = accepted_in w.terminals port

-- ---- the arbiter and the disk

-- who won a generation
abbrev pub winner_in : List Winner → ℕ → Option ℕ
winner_in [] generation = None
winner_in (a ∷ winners) generation =
    if generation == a.generation then Some a.node else winner_in winners generation

-- what the disk keeps for a sector
pub record SectorRecord : Type 0 where
  pub number : ℕ
  pub bytes : List ℕ

-- a write replaces the record of its sector if its number is greater
abbrev pub record_after : SectorRecord → SectorWrite → SectorAddress → SectorRecord
record_after r write address =
    if same_address (address_of write) address
    then (if nat_lt r.number write.number then record { number = write.number; bytes = write.bytes } else r)
    else r

abbrev pub latest : SectorRecord → List SectorWrite → SectorAddress → SectorRecord
latest r [] address = r
latest r (write ∷ puts) address = latest (record_after r write address) puts address

-- what the disk has for a sector after these writes arrived
abbrev pub sector_record : {S : Type 0} → Machine S → List SectorWrite → SectorAddress → SectorRecord
sector_record M puts address = latest (record { number = 0; bytes = M.boot_sector address }) puts address

-- ---- worlds

-- nodes 0 and 1 are primary and backup of generation 1, both of one kind of log, and there are two terminals
abbrev pub opening : {S : Type 0} → Machine S → Reads → World S
opening M reads = record {
  nodes = first_node M reads Primary ∷ first_node M reads Backup ∷ [];
  messages = [];
  terminals = no_terminal ∷ no_terminal ∷ [];
  winners = [];
  puts = [];
}

-- the node of this number is now this one
abbrev pub with_node : {S : Type 0} → World S → ℕ → Node S → World S
with_node w n x = record w { nodes = slice_set w.nodes n x }

abbrev pub with_message : {S : Type 0} → World S → Message → World S
with_message w message = record w { messages = w.messages ++ message ∷ [] }

abbrev pub with_terminal : {S : Type 0} → World S → ℕ → Terminal → World S
with_terminal w port t = record w { terminals = slice_set w.terminals port t }

-- a byte is typed, a byte arrives, a terminal is told that keys are covered
abbrev pub with_key : {S : Type 0} → World S → ℕ → ℕ → World S
with_key w port byte =
    with_terminal w port (record (terminal w port) { typed = (terminal w port).typed ++ byte ∷ [] })

abbrev pub with_arrival : {S : Type 0} → World S → ℕ → Arrival → World S
with_arrival w port a =
    with_terminal w port (record (terminal w port) { arrivals = (terminal w port).arrivals ++ a ∷ [] })

abbrev pub with_told : {S : Type 0} → World S → ℕ → ℕ → World S
with_told w port keys = with_terminal w port (record (terminal w port) { told = max (terminal w port).told keys })

-- a node has won its generation
abbrev pub with_winner : {S : Type 0} → World S → ℕ → Node S → World S
with_winner w n x = record w {
  nodes = slice_set w.nodes n (wins x);
  winners = w.winners ++ record { generation = x.generation; node = n } ∷ [];
}

-- a write arrives at the disk, which answers that it is done
abbrev pub with_put : {S : Type 0} → World S → SectorWrite → World S
with_put w write = record w { messages = w.messages ++ WriteDone write.number ∷ []; puts = w.puts ++ write ∷ [] }

-- the disk answers a read of a sector
abbrev pub with_read : {S : Type 0} → Machine S → World S → SectorAddress → World S
with_read M w address =
    with_message w (SectorRead address (sector_record M w.puts address).number (sector_record M w.puts address).bytes)

-- a node begins the next generation with a host
abbrev pub with_pair : {S : Type 0} → Machine S → Copying S → World S → ℕ → ℕ → Node S → World S
with_pair M C w n host x =
    record w { nodes = slice_set (slice_set w.nodes n (begun M x)) host (joiner M C x) }

-- a spare host is added
abbrev pub with_host : {S : Type 0} → Machine S → World S → World S
with_host M w = record w { nodes = w.nodes ++ spare M ∷ [] }
