-- A node of a pair: its role, its machine, and what it keeps of its generation.
use Rattle.std.specs.Prelude.{ℕ, suc, max, nat_lt, nat_le, Bool, true, false, ◌&&◌, ◌||◌, if◌then◌else◌, Option, Some, None, List, [], ◌∷◌, ◌++◌, length, take, replicate, slice_set}
pub use Rattle.event_callbacks.specs.Operations.{same_name}
use Rattle.event_callbacks.specs.Operations.{id_of}
use Rattle.event_callbacks.specs.declared.operations.OpId.{OpId}
use Rattle.event_callbacks.specs.declared.operations.OpId.TheVariants as id
use Rattle.event_callbacks.specs.declared.operations.Operation.{Operation}
use Rattle.guest_lockstep.specs.Machine.{Machine}
use Rattle.guest_lockstep.specs.declared.input.Input.{Input}
use Rattle.guest_lockstep.specs.declared.reads.Reads.{Reads}
use Rattle.guest_lockstep.specs.declared.reads.Reads.TheVariants.{Logged, Shared}
use Rattle.log_entry.specs.Entries.{marks, entry_of, inputs_of}
use Rattle.log_entry.specs.declared.entry.Entry.{Entry}
use Rattle.guest_lockstep.specs.Reach.{timed, keys}
use Rattle.guest_lockstep.specs.declared.timed.Timed.{Timed}
use Rattle.pair_protocol.specs.Copying.{Copying}
use Rattle.pair_protocol.specs.Waiting.{waits_for}

-- what a node is in its generation
pub data Role : Type 0 where
  -- it takes input, logs it for its backup, and releases what the backup has acknowledged
  Primary : Role
  -- it holds and replays the log
  Backup : Role
  -- it is given a copy of the primary's machine, and will be the backup
  Joining : Role
  -- a backup that won: it replays all that it holds
  Draining : Role
  -- live: it runs with no backup, and may release everything
  Alone : Role
  -- a host that has no role yet
  Spare : Role

-- when an operation is covered: its entry is acknowledged, and the backup has reported this many entries as replayed
pub record Note : Type 0 where
  pub name : OpId
  pub index : ℕ
  pub after : ℕ

-- a halted node keeps its role and all that it had
pub record Node (S : Type 0) : Type 0 where
  pub role : Role
  pub running : Bool
  pub generation : ℕ
  -- how its generation's log carries the sectors that its primary reads
  pub reads : Reads
  -- the machine, and all its inputs
  pub machine : S
  pub list : List Timed
  -- the inputs and the count with which the generation began
  pub copy : List Timed
  pub start : ℕ
  -- of a backup: the entries that it holds, how many of them it has replayed, and the bytes of the sector that the next
  -- one reads, if they have arrived
  pub held : List Entry
  pub replayed : ℕ
  pub fetched : Option (List ℕ)
  -- of a primary: its log, how many of its entries are acknowledged, how many the backup has reported as replayed, and
  -- what each operation waits for
  pub log : List Entry
  pub covered : ℕ
  pub reported : ℕ
  pub notes : List Note
  -- of a primary: the machine whose copy it gives; of a joining node: the parts that arrived
  pub image : Option S
  pub parts : List (Option (List ℕ))

-- ---- roles

abbrev pub is_role : Role → Role → Bool
is_role Primary Primary = true
is_role Backup Backup = true
is_role Joining Joining = true
is_role Draining Draining = true
is_role Alone Alone = true
is_role Spare Spare = true
is_role _ _ = false

-- it is running, in one of the roles
abbrev pub acts_as : {S : Type 0} → Node S → List Role → Bool
acts_as x [] = false
acts_as x (role ∷ roles) = x.running && (is_role x.role role) || acts_as x roles

-- the role that a node takes when it wins the test-and-set
abbrev pub won_role : Role → Role
won_role Primary = Alone
won_role Backup = Draining
won_role Joining = Joining
won_role Draining = Draining
won_role Alone = Alone
won_role Spare = Spare

-- ---- nodes as they begin

-- a node that has taken no input yet, and holds and has logged no entry
abbrev pub blank : {S : Type 0} → Role → ℕ → Reads → S → Node S
blank role generation reads s = record {
  role = role;
  running = true;
  generation = generation;
  reads = reads;
  machine = s;
  list = [];
  copy = [];
  start = 0;
  held = [];
  replayed = 0;
  fetched = None;
  log = [];
  covered = 0;
  reported = 0;
  notes = [];
  image = None;
  parts = [];
}

-- a node at boot, in generation 1
abbrev pub first_node : {S : Type 0} → Machine S → Reads → Role → Node S
first_node M reads role = blank role 1 reads M.boot

-- a host that has just come
abbrev pub spare : {S : Type 0} → Machine S → Node S
spare M = blank Spare 0 Logged M.boot

-- an alone node begins the next generation as its primary, with an empty log and an image of itself
abbrev pub begun : {S : Type 0} → Machine S → Node S → Node S
begun M x = record (blank Primary (suc x.generation) x.reads x.machine) {
  list = x.list;
  copy = x.list;
  start = M.count x.machine;
  image = Some x.machine;
}

-- and a host joins it, with no part of the image yet
abbrev pub joiner : {S : Type 0} → Machine S → Copying S → Node S → Node S
joiner M C x = record (blank Joining (suc x.generation) x.reads M.boot) {
  copy = x.list;
  start = M.count x.machine;
  parts = replicate C.part_count None;
}

-- ---- the machine's moves at a node

-- a primary logs a mark for an operation, and notes what it waits for: the mark, and for a write the reads before it
abbrev pub notes_after : List Note → List Entry → Option Operation → List Note
notes_after notes log None = notes
notes_after notes log (Some operation) =
    record { name = id_of operation; index = length log; after = waits_for operation log } ∷ notes

abbrev pub primary_steps : {S : Type 0} → Machine S → Node S → S → Option Operation → Node S
primary_steps M x s gives = record x {
  machine = s;
  log = x.log ++ marks (M.count s) gives;
  notes = notes_after x.notes x.log gives;
}

-- every other node logs nothing
abbrev pub plainly_steps : {S : Type 0} → Node S → S → Node S
plainly_steps x s = record x { machine = s }

-- a primary logs an input with its count
abbrev pub primary_takes : {S : Type 0} → Machine S → Node S → S → Input → Node S
primary_takes M x s i = record x {
  machine = s;
  list = x.list ++ timed (M.count x.machine) i ∷ [];
  log = x.log ++ entry_of x.reads (M.count x.machine) i ∷ [];
}

abbrev pub alone_takes : {S : Type 0} → Machine S → Node S → S → Input → Node S
alone_takes M x s i = record x { machine = s; list = x.list ++ timed (M.count x.machine) i ∷ [] }

-- ---- what else changes at a node

abbrev pub holds : {S : Type 0} → Node S → Entry → Node S
holds x e = record x { held = x.held ++ e ∷ [] }

-- an entry is replayed: a mark leaves the machine as it is, an input is taken, a read is taken with the bytes that arrived
abbrev pub passes_mark : {S : Type 0} → Node S → Node S
passes_mark x = record x { replayed = suc x.replayed }

abbrev pub passes_input : {S : Type 0} → Node S → S → Node S
passes_input x s = record x { machine = s; replayed = suc x.replayed }

abbrev pub passes_read : {S : Type 0} → Node S → S → Node S
passes_read x s = record x { machine = s; replayed = suc x.replayed; fetched = None }

-- the bytes that the next entry reads arrive
abbrev pub fetches : {S : Type 0} → Node S → List ℕ → Node S
fetches x bytes = record x { fetched = Some bytes }

-- how many entries a backup reports as replayed: none if the log carries its sectors, so that nothing waits for a read
abbrev pub told_by : Reads → ℕ → ℕ
told_by Logged replayed = 0
told_by Shared replayed = replayed

abbrev pub replay_told : {S : Type 0} → Node S → ℕ
replay_told x = told_by x.reads x.replayed

-- an acknowledgement arrives: one of fewer entries covers no more than before, and the image is no longer needed
abbrev pub hears : {S : Type 0} → Node S → ℕ → ℕ → Node S
hears x held replayed =
    record x { covered = max x.covered held; reported = max x.reported replayed; image = None }

abbrev pub halts : {S : Type 0} → Node S → Node S
halts x = record x { running = false }

abbrev pub wins : {S : Type 0} → Node S → Node S
wins x = record x { role = won_role x.role }

-- a drained node is alone: its inputs are those of the copy and those that it held
abbrev pub goes_live : {S : Type 0} → Node S → Node S
goes_live x = record x { role = Alone; list = x.copy ++ inputs_of x.held }

-- a part arrives, and with the last one the node is the backup
abbrev pub gets_part : {S : Type 0} → Node S → ℕ → List ℕ → Node S
gets_part x index part = record x { parts = slice_set x.parts index (Some part) }

abbrev pub joins : {S : Type 0} → Node S → S → Node S
joins x s = record x { role = Backup; machine = s; list = x.copy }

-- all the parts, if each has arrived
abbrev pub with_first : List ℕ → Option (List (List ℕ)) → Option (List (List ℕ))
with_first part None = None
with_first part (Some parts) = Some (part ∷ parts)

abbrev pub gathered : List (Option (List ℕ)) → Option (List (List ℕ))
gathered [] = Some []
gathered (None ∷ slots) = None
gathered (Some part ∷ slots) = with_first part (gathered slots)

-- ---- what a node covers

-- what an operation waits for; nothing if it was already outstanding in the image
abbrev pub note_of : List Note → OpId → Option Note
note_of [] name = None
note_of (note ∷ notes) name = if same_name name note.name then Some note else note_of notes name

-- output rule: an operation is covered if its entry is acknowledged and the reads that it waits for are replayed
abbrev pub covers : ℕ → ℕ → Option Note → Bool
covers acknowledged reported None = true
covers acknowledged reported (Some note) = nat_lt note.index acknowledged && nat_le note.after reported

-- how many keys of a port are covered: at a primary those of the copy and of the acknowledged entries, at an alone node
-- all that its machine has taken
abbrev pub keys_covered : {S : Type 0} → Machine S → Node S → ℕ → Role → ℕ
keys_covered M x port Primary = length (keys port (x.copy ++ inputs_of (take x.covered x.log)))
keys_covered M x port Alone = M.keys x.machine port
keys_covered M x port Backup = 0
keys_covered M x port Joining = 0
keys_covered M x port Draining = 0
keys_covered M x port Spare = 0
