-- The inductive invariant of the protocol (`Inv`): what holds of every world that actions reach, strong enough that each
-- action keeps it. Each generation has a line of moves, and all lines lead to the settled moves, which only get longer.
pub mod Progress
pub mod Settled
pub mod Frames
pub mod Acting
use Rattle.std.proofs.Common.{[], ◌++◌, ◌+◌, ◌<◌, ◌≡◌, ◌≤◌, ◌⊎◌, List, None, Option, Some, length, map, true, ℕ}
use Rattle.std.specs.Prelude.{slice_get}
use Rattle.pair_protocol.proofs.Words.{Acknowledgement, Alone, Among, Arrival, Backup, Byte, Copying, Draining, Entry, ImagePart, IsPrefix, Joining, LogEntry, Machine, Message, Move, Node, Operation, Owns, Primary, Reads, Recorded, Released, Replaying, Runs, SectorAddress, SectorRead, SectorWrite, Spare, Terminal, Timed, Winner, World, Write, WriteDone, acceptances, accepted_in, address_of, cut, entries, inputs, is_read, keys, operations, steps, terminal_in, winner_in}
use Rattle.guest_lockstep.specs.declared.timed.Bare.TheVariants.{Written}
pub use Rattle.pair_protocol.proofs.Invariant.Progress.{AreNoted, AtPlace, HasGathered, HasLogged, HasMade, HoldsLog, IsNoted, ReplayedMoves}

-- Whether nobody has won a generation, or its primary, or its backup: the node that began it in that role.
pub data Stage : Type 0 where
  Undecided : Stage
  PrimaryWon : Stage
  BackupWon : Stage

-- The line of moves of a generation.
pub record Line (S : Type 0) : Type 0 where
  -- how its log carries the sectors that its primary reads
  pub reads : Reads
  -- what was settled when the generation began
  pub base : List Move
  -- what its primary has made since
  pub own : List Move
  -- what its backup made after it won and drained
  pub more : List Move
  -- the machine at the end of the base
  pub mid : S
  -- who has won, if anybody has
  pub stage : Stage
  -- the node that began as primary
  pub primary : ℕ
  -- the node that began as backup
  pub backup : ℕ
  -- the entries that the backup holds
  pub held : List Entry

-- The settled moves of a generation whose backup holds n entries.
abbrev pub settled_moves : Stage → List Move → List Move → List Move → ℕ → List Move
settled_moves Undecided base own more n = base ++ cut n own
settled_moves PrimaryWon base own more n = base ++ own
settled_moves BackupWon base own more n = base ++ (cut n own ++ more)

abbrev pub settled : {S : Type 0} → Line S → List Move
settled l = settled_moves l.stage l.base l.own l.more (length l.held)

abbrev pub winner_at : Stage → ℕ → ℕ → Option ℕ
winner_at Undecided primary backup = None
winner_at PrimaryWon primary backup = Some primary
winner_at BackupWon primary backup = Some backup

-- The primary of a generation.
pub record IsPrimary {S : Type 0} (M : Machine S) (l : Line S) (a : Node S) : Type 0 where
  -- it is a primary still, or alone because it has won
  pub role : (a.role ≡ Primary) ⊎ ((a.role ≡ Alone) × (l.stage ≡ PrimaryWon))
  -- it logs its sectors as the line says
  pub reads : a.reads ≡ l.reads
  -- its machine has made its own moves
  pub made : HasMade M l.mid l.base l.own a.machine a.list
  pub open made use *
  -- its copy has the inputs of the base
  pub copy : a.copy ≡ inputs 0 l.base
  -- what it knows to be acknowledged is held
  pub covered : a.covered ≤ length l.held
  -- its image, if any, is the machine at the end of the base
  pub image : (s : S) → a.image ≡ Some s → s ≡ l.mid
  -- its log has the entries of its own moves, each operation of which is noted
  pub logged : a.role ≡ Primary → HasLogged l.reads (steps l.base) l.own a.log a.notes

-- A node that replays has made some of the primary's moves.
abbrev pub HasReplayed : {S : Type 0} → Machine S → Line S → Node S → Type 0
HasReplayed M l b = ReplayedMoves M l.mid l.reads (steps l.base) l.own b.machine b.held b.replayed

-- All moves since the base of a backup that is alone.
abbrev pub alone_moves : {S : Type 0} → Line S → List Entry → List Move
alone_moves l held = cut (length held) l.own ++ l.more

-- What the backup of a generation has done, by its role.
pub data BackupState {S : Type 0} (M : Machine S) (C : Copying S) (l : Line S) (b : Node S) : Type 0 where
  AsJoining : b.role ≡ Joining → (l.stage ≡ BackupWon → ⊥) → HasGathered (C.parts l.mid) b.held b.replayed b.parts →
      BackupState M C l b
  AsBackup : b.role ≡ Backup → (l.stage ≡ BackupWon → ⊥) → HasReplayed M l b → BackupState M C l b
  AsDraining : b.role ≡ Draining → l.stage ≡ BackupWon → l.more ≡ [] → HasReplayed M l b → BackupState M C l b
  AsAlone : b.role ≡ Alone → l.stage ≡ BackupWon → HasMade M l.mid l.base (alone_moves l b.held) b.machine b.list →
      BackupState M C l b

-- The backup of a generation.
pub record IsBackup {S : Type 0} (M : Machine S) (C : Copying S) (l : Line S) (b : Node S) : Type 0 where
  pub state : BackupState M C l b
  pub log : HoldsLog l.reads l.base l.own b.copy b.start b.held
  pub open log use *

-- the primary is still of the generation
pub record PrimaryHere {S : Type 0} (M : Machine S) (nodes : List (Node S)) (g : ℕ) (l : Line S) : Type 0 where
  pub a : Node S
  pub there : slice_get nodes l.primary ≡ Some a
  pub generation : a.generation ≡ g
  pub is_primary : IsPrimary M l a

-- the backup is still of the generation
pub record BackupHere {S : Type 0} (M : Machine S) (C : Copying S) (nodes : List (Node S)) (g : ℕ)
    (l : Line S) : Type 0 where
  pub b : Node S
  pub there : slice_get nodes l.backup ≡ Some b
  pub generation : b.generation ≡ g
  pub held : b.held ≡ l.held
  pub is_backup : IsBackup M C l b

-- the node is no longer of the generation
abbrev pub Gone : {S : Type 0} → List (Node S) → ℕ → ℕ → Type 0
Gone {S} nodes g n = (x : Node S) → slice_get nodes n ≡ Some x → (x.role ≡ Spare → ⊥) → x.generation ≡ g → ⊥

-- nothing of the generation is there
pub record Unseen {S : Type 0} (nodes : List (Node S)) (messages : List Message) (winners : List Winner)
    (g : ℕ) : Type 0 where
  pub nobody : (n : ℕ) → Gone nodes g n
  pub no_log : (i : ℕ) (e : Entry) → Among (LogEntry g i e) messages → ⊥
  pub no_ack : (h r : ℕ) → Among (Acknowledgement g h r) messages → ⊥
  pub no_part : (i : ℕ) (p : List ℕ) → Among (ImagePart g i p) messages → ⊥
  pub no_winner : winner_in winners g ≡ None

-- In the highest generation both nodes are there; the winner of an earlier one has left it for the next.
pub data Presence {S : Type 0} (M : Machine S) (C : Copying S) (nodes : List (Node S)) (messages : List Message)
    (winners : List Winner) (top : ℕ) (T : List Move) (g : ℕ) (l : Line S) : Type 0 where
  AtTop : g ≡ top → settled l ≡ T → PrimaryHere M nodes g l → BackupHere M C nodes g l →
      Presence M C nodes messages winners top T g l
  PrimaryLeft : g < top → l.stage ≡ PrimaryWon → Gone nodes g l.primary → BackupHere M C nodes g l →
      Presence M C nodes messages winners top T g l
  BackupLeft : g < top → l.stage ≡ BackupWon → Gone nodes g l.backup → PrimaryHere M nodes g l →
      Presence M C nodes messages winners top T g l
  Unused : (g ≡ top → ⊥) → Unseen nodes messages winners g → Presence M C nodes messages winners top T g l

-- What holds of a line by itself.
pub record IsLine {S : Type 0} (M : Machine S) (l : Line S) : Type 0 where
  -- the base is a run from boot
  pub based : Runs M M.boot l.base l.mid
  -- the primary's own moves are a run from there, each of whose inputs was accepted
  pub recorded : (t : S) × Recorded M l.mid l.own t
  -- primary and backup are two nodes
  pub apart : l.primary ≡ l.backup → ⊥
  -- what is held is a prefix of the log
  pub held : IsPrefix l.held (entries l.reads (steps l.base) l.own)

-- What the messages of a generation say is true.
pub record Says {S : Type 0} (C : Copying S) (messages : List Message) (g : ℕ) (l : Line S) : Type 0 where
  -- each log message is that entry of the log
  pub logs : (i : ℕ) (e : Entry) → Among (LogEntry g i e) messages → slice_get (entries l.reads (steps l.base) l.own) i ≡ Some e
  -- no acknowledgement is greater than what is held, and no more is replayed than held
  pub acks : (h r : ℕ) → Among (Acknowledgement g h r) messages → (h ≤ length l.held) × (r ≤ h)
  -- each part of the image is that of the machine at the end of the base
  pub parts : (i : ℕ) (p : List ℕ) → Among (ImagePart g i p) messages → slice_get (C.parts l.mid) i ≡ Some p

-- a write of this number arrived at the disk
abbrev pub HasPut : List SectorWrite → ℕ → Type 0
HasPut puts n = (v : SectorWrite) × Among v puts × (v.number ≡ n)

-- each completed write of the list arrived
abbrev pub ArePut : List SectorWrite → List Timed → Type 0
ArePut puts ts = (n : ℕ) → Among (Written n) (map (λ t. t.input) ts) → HasPut puts n

-- The inputs of a list came from the devices.
pub record CameIn (terminals : List Terminal) (puts : List SectorWrite) (ts : List Timed) : Type 0 where
  -- acceptances were really accepted
  pub done : (p : ℕ) → acceptances p ts ≤ length (accepted_in terminals p)
  -- keys were really typed
  pub typed : (p : ℕ) → IsPrefix (keys p ts) (terminal_in terminals p).typed
  -- completed writes were really put
  pub put : ArePut puts ts

-- a write was issued before each read that a node holds and has not replayed
abbrev pub WaitsAt : {S : Type 0} → Line S → Node S → SectorWrite → Type 0
WaitsAt l b v = (k : ℕ) (e : Entry) → b.replayed ≤ k → slice_get b.held k ≡ Some e → is_read e ≡ true →
    Among (Write v) (operations (l.base ++ cut k l.own))

-- What is known of the backup's replay.
pub record ReadsOf {S : Type 0} (nodes : List (Node S)) (messages : List Message) (top g : ℕ)
    (l : Line S) : Type 0 where
  -- the primary was told of no more than is replayed
  pub heard : (a b : Node S) → slice_get nodes l.primary ≡ Some a → slice_get nodes l.backup ≡ Some b →
      a.generation ≡ g → b.generation ≡ g → a.role ≡ Primary → (b.role ≡ Spare → ⊥) → a.reported ≤ b.replayed
  -- nor does an acknowledgement tell of more
  pub told : (h r : ℕ) (b : Node S) → Among (Acknowledgement g h r) messages → slice_get nodes l.backup ≡ Some b →
      b.generation ≡ g → (b.role ≡ Spare → ⊥) → r ≤ b.replayed
  -- while it replays, each write that was released waits for the reads that it has still to replay
  pub waits : g ≡ top → (l.stage ≡ PrimaryWon → ⊥) → (b : Node S) → slice_get nodes l.backup ≡ Some b →
      b.generation ≡ g → Replaying b.role → (v : SectorWrite) → Among (Released (Write v)) messages → WaitsAt l b v

-- What holds of a generation. Each part is indexed by what it reads, so that an action leaves the other parts.
pub record LineOf {S : Type 0} (M : Machine S) (C : Copying S) (w : World S) (top : ℕ) (T : List Move)
    (g : ℕ) : Type 0 where
  pub line : Line S
  pub sound : IsLine M line
  -- which of its nodes are there
  pub presence : Presence M C w.nodes w.messages w.winners top T g line
  -- they are the only ones of the generation
  pub members : (n : ℕ) (x : Node S) → slice_get w.nodes n ≡ Some x → (x.role ≡ Spare → ⊥) → x.generation ≡ g →
      (n ≡ line.primary) ⊎ (n ≡ line.backup)
  -- the arbiter names the winner
  pub tied : winner_in w.winners g ≡ winner_at line.stage line.primary line.backup
  pub says : Says C w.messages g line
  -- the primary's inputs came from the devices
  pub came : CameIn w.terminals w.puts (inputs 0 (line.base ++ line.own))
  -- the sectors that it read have the bytes of the machine's own disk
  pub owns : (line.stage ≡ BackupWon → ⊥) → Owns M [] M.boot (line.base ++ line.own)
  -- what is settled of the generation is a prefix of the trace
  pub below : IsPrefix (settled line) T
  pub reads : ReadsOf w.nodes w.messages top g line

-- the bytes of a sector at boot, or those of a settled write of it
pub data IsRecord {S : Type 0} (M : Machine S) (q : SectorAddress) (n : ℕ) (bytes : List ℕ)
    (T : List Move) : Type 0 where
  AtStart : n ≡ 0 → bytes ≡ M.boot_sector q → IsRecord M q n bytes T
  OfWrite : (v : SectorWrite) → Among (Write v) (operations T) → address_of v ≡ q → v.number ≡ n → v.bytes ≡ bytes →
      IsRecord M q n bytes T

-- What holds of the settled moves, of all messages, terminals and writes.
pub record Global {S : Type 0} (M : Machine S) (messages : List Message) (terminals : List Terminal)
    (puts : List SectorWrite) (T : List Move) : Type 0 where
  -- whatever was released is an operation of the trace
  pub sends : (o : Operation) → Among (Released o) messages → Among o (operations T)
  -- so is each byte that arrived at a terminal
  pub arrived : (p : ℕ) (a : Arrival) → Among a (terminal_in terminals p).arrivals →
      Among (Byte p a.number a.byte) (operations T)
  -- and each write that arrived at the disk, which was also released
  pub puts_are : (v : SectorWrite) → Among v puts → Among (Write v) (operations T) × Among (Released (Write v)) messages
  -- what the disk answered to a read is its record at boot, or of a write of the trace
  pub reads : (q : SectorAddress) (n : ℕ) (bytes : List ℕ) → Among (SectorRead q n bytes) messages →
      IsRecord M q n bytes T
  -- what it answered to a write did arrive
  pub written : (n : ℕ) → Among (WriteDone n) messages → HasPut puts n
  -- the inputs of the trace came from the devices
  pub came : CameIn terminals puts (inputs 0 T)
  -- the sectors that it took have the bytes of its own disk
  pub owns : Owns M [] M.boot T
  -- no terminal was told of more keys than the trace has
  pub told : (p : ℕ) → (terminal_in terminals p).told ≤ length (keys p (inputs 0 T))

-- The invariant.
pub record Inv {S : Type 0} (M : Machine S) (C : Copying S) (w : World S) : Type 0 where
  -- the highest generation
  pub top : ℕ
  -- its settled moves: one run of one machine from boot
  pub trace : List Move
  -- the line of each generation
  pub each : (g : ℕ) → LineOf M C w top trace g
  pub global : Global M w.messages w.terminals w.puts trace
  -- a spare host belongs to no generation
  pub spares : (n : ℕ) (x : Node S) → slice_get w.nodes n ≡ Some x → x.role ≡ Spare → x.generation ≡ 0
  -- the highest generation began with all that was settled before
  pub earlier : (g : ℕ) → g < top → IsPrefix (settled (each g).line) (each top).line.base

-- The invariant of a world whose settled moves begin with these: what each action is shown to keep.
pub record Next {S : Type 0} (M : Machine S) (C : Copying S) (T : List Move) (w : World S) : Type 0 where
  pub inv : Inv M C w
  pub grows : IsPrefix T inv.trace
