-- What may happen to a world: one atomic action of one actor at a time.
use Rattle.std.specs.Prelude.{◌≡◌, ℕ, ◌≤◌, ◌<◌, true, ◌⊎◌, Option, Some, None, List, length, slice_get}
use Rattle.disk_dcdd.specs.declared.address.SectorAddress.{SectorAddress}
use Rattle.disk_dcdd.specs.declared.sector.SectorWrite.{SectorWrite}
use Rattle.event_callbacks.specs.declared.operations.OpId.{OpId}
use Rattle.event_callbacks.specs.declared.operations.Operation.{Operation}
use Rattle.event_callbacks.specs.declared.operations.Operation.TheVariants.{Byte, Write}
use Rattle.guest_lockstep.specs.Machine.{Machine, refusal_of}
use Rattle.guest_lockstep.specs.declared.input.Input.{Input}
use Rattle.guest_lockstep.specs.declared.input.Input.TheVariants.{Rx, Sent, Sector, Written}
use Rattle.guest_lockstep.specs.declared.reads.Reads.{Reads}
use Rattle.log_entry.specs.Entries.{count_of, input_of, bare_of}
use Rattle.log_entry.specs.declared.entry.Entry.{Entry}
use Rattle.log_entry.specs.declared.entry.Entry.TheVariants as entry
use Rattle.pair_protocol.specs.Lawful.{Among}
use Rattle.pair_protocol.specs.Copying.{Copying}
use Rattle.pair_protocol.specs.Node.{Node, Role, Primary, Backup, Joining, Draining, Alone, Spare, primary_steps, plainly_steps, primary_takes, alone_takes, holds, passes_mark, passes_input, passes_read, fetches, hears, halts, goes_live, gets_part, joins, gathered, note_of, covers, keys_covered}
use Rattle.pair_protocol.specs.World.{World, LogEntry, Acknowledgement, ImagePart, Released, WriteDone, SectorRead, terminal, accepted, winner_in, with_node, with_message, with_key, with_arrival, with_told, with_winner, with_put, with_read, with_pair, with_host, opening}

-- the node of this number is running, in this role
pub record Acts {S : Type 0} (w : World S) (n : ℕ) (x : Node S) (role : Role) : Type 0 where
  pub there : slice_get w.nodes n ≡ Some x
  pub up : x.running ≡ true
  pub role_is : x.role ≡ role

-- where an input may come from: a key is the next one typed, an accepted byte was accepted at its terminal, and what comes
-- from the disk is one of its answers
abbrev pub MayTake : {S : Type 0} → Machine S → World S → Node S → Input → Type 0
MayTake M w x (Rx port byte) = slice_get (terminal w port).typed (M.keys x.machine port) ≡ Some byte
MayTake M w x (Sent port) = (k : ℕ) × (M.due_byte x.machine port ≡ Some k) × (k ≤ length (accepted w port))
MayTake M w x (Sector drive sector number bytes) =
    Among (SectorRead (M.address x.machine drive sector) number bytes) w.messages
MayTake M w x (Written number) = Among (WriteDone number) w.messages

-- a node that replays: a backup, or one that drains
abbrev pub Replaying : Role → Type 0
Replaying role = (role ≡ Backup) ⊎ (role ≡ Draining)

-- the next entry of a node is due at its machine's count: a read of this sector, as the write of this number left it
abbrev pub IsAtRead : {S : Type 0} → Machine S → Node S → ℕ → ℕ → ℕ → Type 0
IsAtRead M x drive sector number =
    slice_get x.held x.replayed ≡ Some (entry.Read (M.count x.machine) drive sector number)

-- a node that serves: a primary, or one that is alone
abbrev pub Serving : Role → Type 0
Serving role = (role ≡ Primary) ⊎ (role ≡ Alone)

pub data Change {S : Type 0} (M : Machine S) (C : Copying S) (w : World S) : World S → Type 0 where
  -- the machine makes a step
  PrimarySteps : (n : ℕ) (x : Node S) (s : S) (gives : Option Operation) →
      Acts w n x Primary → M.step x.machine ≡ Some (s, gives) →
      Change M C w (with_node w n (primary_steps M x s gives))
  AloneSteps : (n : ℕ) (x : Node S) (s : S) (gives : Option Operation) →
      Acts w n x Alone → M.step x.machine ≡ Some (s, gives) → Change M C w (with_node w n (plainly_steps x s))
  -- or takes an input that it does not refuse; it refuses a sector that was read before the last completed write of it
  PrimaryTakes : (n : ℕ) (x : Node S) (s : S) (i : Input) →
      Acts w n x Primary → MayTake M w x i → refusal_of M x.machine i ≡ None → M.take x.machine i ≡ Some s →
      Change M C w (with_node w n (primary_takes M x s i))
  AloneTakes : (n : ℕ) (x : Node S) (s : S) (i : Input) →
      Acts w n x Alone → MayTake M w x i → refusal_of M x.machine i ≡ None → M.take x.machine i ≡ Some s →
      Change M C w (with_node w n (alone_takes M x s i))
  -- a byte is typed
  Types : (port byte : ℕ) → Change M C w (with_key w port byte)
  -- a primary sends an entry of its log, as often as it likes
  Sends : (n : ℕ) (x : Node S) (index : ℕ) (e : Entry) →
      Acts w n x Primary → slice_get x.log index ≡ Some e →
      Change M C w (with_message w (LogEntry x.generation index e))
  -- a backup holds the next entry, and no other
  Holds : (n : ℕ) (x : Node S) (m : ℕ) (e : Entry) →
      Acts w n x Backup → slice_get w.messages m ≡ Some (LogEntry x.generation (length x.held) e) →
      Change M C w (with_node w n (holds x e))
  -- it acknowledges all entries that it holds, and reports at most as many replayed as it has replayed
  Acknowledges : (n : ℕ) (x : Node S) (replayed : ℕ) →
      Acts w n x Backup → replayed ≤ x.replayed →
      Change M C w (with_message w (Acknowledgement x.generation (length x.held) replayed))
  -- a primary receives an acknowledgement
  Hears : (n : ℕ) (x : Node S) (m held replayed : ℕ) →
      Acts w n x Primary → slice_get w.messages m ≡ Some (Acknowledgement x.generation held replayed) →
      Change M C w (with_node w n (hears x held replayed))
  -- a node replays: a step below the count of its next entry, and at that count the entry itself
  ReplaysStep : (n : ℕ) (x : Node S) (role : Role) (e : Entry) (s : S) (gives : Option Operation) →
      Acts w n x role → Replaying role → slice_get x.held x.replayed ≡ Some e → M.count x.machine < count_of e →
      M.step x.machine ≡ Some (s, gives) → Change M C w (with_node w n (plainly_steps x s))
  ReplaysMark : (n : ℕ) (x : Node S) (role : Role) (e : Entry) →
      Acts w n x role → Replaying role → slice_get x.held x.replayed ≡ Some e → M.count x.machine ≡ count_of e →
      bare_of e ≡ None → Change M C w (with_node w n (passes_mark x))
  ReplaysInput : (n : ℕ) (x : Node S) (role : Role) (e : Entry) (i : Input) (s : S) →
      Acts w n x role → Replaying role → slice_get x.held x.replayed ≡ Some e → M.count x.machine ≡ count_of e →
      input_of e ≡ Some i → M.take x.machine i ≡ Some s → Change M C w (with_node w n (passes_input x s))
  -- at a read: once the disk has answered with the sector as that write left it, the node takes those bytes
  Fetches : (n : ℕ) (x : Node S) (role : Role) (m drive sector number : ℕ) (bytes : List ℕ) →
      Acts w n x role → Replaying role → IsAtRead M x drive sector number →
      slice_get w.messages m ≡ Some (SectorRead (M.address x.machine drive sector) number bytes) →
      Change M C w (with_node w n (fetches x bytes))
  ReplaysRead : (n : ℕ) (x : Node S) (role : Role) (drive sector number : ℕ) (bytes : List ℕ) (s : S) →
      Acts w n x role → Replaying role → IsAtRead M x drive sector number → x.fetched ≡ Some bytes →
      M.take x.machine (Sector drive sector number bytes) ≡ Some s → Change M C w (with_node w n (passes_read x s))
  -- output rule: a primary releases an outstanding operation only if it is covered
  PrimaryReleases : (n : ℕ) (x : Node S) (name : OpId) (o : Operation) →
      Acts w n x Primary → M.find x.machine name ≡ Some o → covers x.covered x.reported (note_of x.notes name) ≡ true →
      Change M C w (with_message w (Released o))
  -- an alone node is live: it releases any outstanding operation
  AloneReleases : (n : ℕ) (x : Node S) (name : OpId) (o : Operation) →
      Acts w n x Alone → M.find x.machine name ≡ Some o → Change M C w (with_message w (Released o))
  -- a byte arrives at its terminal
  Arrives : (m port number byte : ℕ) → slice_get w.messages m ≡ Some (Released (Byte port number byte)) →
      Change M C w (with_arrival w port (record { number = number; byte = byte }))
  -- a terminal is told how many keys are covered
  Tells : (n : ℕ) (x : Node S) (port : ℕ) (role : Role) →
      Acts w n x role → Serving role → Change M C w (with_told w port (keys_covered M x port x.role))
  -- a node halts
  Stops : (n : ℕ) (x : Node S) →
      slice_get w.nodes n ≡ Some x → (x.role ≡ Spare → ⊥) → Change M C w (with_node w n (halts x))
  -- test-and-set: the first node of a generation to ask has won it
  Wins : (n : ℕ) (x : Node S) (role : Role) →
      Acts w n x role → (role ≡ Joining → ⊥) → (role ≡ Spare → ⊥) → winner_in w.winners x.generation ≡ None →
      Change M C w (with_winner w n x)
  -- a backup that won goes live once it has replayed all that it holds
  GoesLive : (n : ℕ) (x : Node S) →
      Acts w n x Draining → x.replayed ≡ length x.held → Change M C w (with_node w n (goes_live x))
  -- an alone node begins the next generation with a spare host
  Begins : (n host : ℕ) (x y : Node S) →
      Acts w n x Alone → slice_get w.nodes host ≡ Some y → y.role ≡ Spare → Change M C w (with_pair M C w n host x)
  -- its image is sent in parts, which arrive in any order
  SendsPart : (n : ℕ) (x : Node S) (s : S) (index : ℕ) (part : List ℕ) →
      Acts w n x Primary → x.image ≡ Some s → slice_get (C.parts s) index ≡ Some part →
      Change M C w (with_message w (ImagePart x.generation index part))
  GetsPart : (n : ℕ) (x : Node S) (m index : ℕ) (part : List ℕ) →
      Acts w n x Joining → slice_get w.messages m ≡ Some (ImagePart x.generation index part) →
      Change M C w (with_node w n (gets_part x index part))
  Joins : (n : ℕ) (x : Node S) (parts : List (List ℕ)) (s : S) →
      Acts w n x Joining → gathered x.parts ≡ Some parts → C.assemble parts ≡ Some s →
      Change M C w (with_node w n (joins x s))
  -- a spare host is added
  HostComes : Change M C w (with_host M w)
  -- a write arrives at the disk, or a sector of it is read
  Puts : (m : ℕ) (write : SectorWrite) → slice_get w.messages m ≡ Some (Released (Write write)) →
      Change M C w (with_put w write)
  ReadsSector : (address : SectorAddress) → Change M C w (with_read M w address)

-- a sequence of actions
pub data Changes {S : Type 0} (M : Machine S) (C : Copying S) : World S → World S → Type 0 where
  Stays : {w : World S} → Changes M C w w
  Then : {w mid new : World S} → Change M C w mid → Changes M C mid new → Changes M C w new

-- the worlds that actions reach
pub data Reached {S : Type 0} (M : Machine S) (C : Copying S) : World S → Type 0 where
  AtBoot : (reads : Reads) → Reached M C (opening M reads)
  After : {w new : World S} → Reached M C w → Change M C w new → Reached M C new
