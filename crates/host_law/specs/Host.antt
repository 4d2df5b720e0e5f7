-- What the process of a host does: one call of its node after another, each with the frames that it took in and sent.
use Rattle.std.specs.Prelude.{◌≡◌, ℕ, suc, ◌<◌, ◌≤◌, ◌⊎◌, Bool, Option, Some, None, List, [], ◌∷◌, length, replicate}
use Rattle.disk_dcdd.specs.declared.address.SectorAddress.{SectorAddress}
use Rattle.event_callbacks.specs.declared.devices.TheConstants.{PORTS}
use Rattle.event_callbacks.specs.declared.operations.OpId.{OpId}
use Rattle.event_callbacks.specs.declared.operations.OpId.TheVariants as id
use Rattle.event_callbacks.specs.declared.operations.Operation.{Operation}
use Rattle.guest_lockstep.specs.Machine.{Machine}
use Rattle.guest_lockstep.specs.Reach.{keys}
use Rattle.guest_lockstep.specs.declared.input.Input.TheVariants as input
use Rattle.guest_lockstep.specs.declared.reads.Reads.{Reads}
use Rattle.guest_lockstep.specs.declared.replay_end.ReplayEnd.{ReplayEnd}
use Rattle.guest_lockstep.specs.declared.running.StopReason.{StopReason}
use Rattle.guest_lockstep.specs.declared.timed.Timed.{Timed}
use Rattle.i8080_words.specs.declared.refusal.Fault.{Fault}
use Rattle.log_entry.specs.declared.entry.Entry.{Entry}
use Rattle.pair_protocol.specs.Copying.{Copying}
use Rattle.pair_protocol.specs.Effects as effect
use Rattle.pair_protocol.specs.Effects.{GotPart, HasCovered, HasEntry, HasHeld, HasOutstanding, HasPart, IsUnder, Wants}
use Rattle.pair_protocol.specs.Node.{Node, Primary, Backup, Joining, Alone, Spare, begun, blank, wins}
use Rattle.pair_protocol.specs.Refusals.{acknowledge_refusal, at_node, begin_pair_refusal, deliver_acknowledgement_refusal, deliver_log_refusal, drain_refusal, fetch_refusal, fetched_refusal, freshen_refusal, get_refusal, get_reply_refusal, part_comes_refusal, put_reply_refusal, release_refusal, replay_refusal, send_part_refusal, send_refusal, step_refusal, stop_refusal, suspect_refusal, take_key_refusal, tell_sent_refusal, told_refusal}
use Rattle.pair_protocol.specs.Reply.{Reply}
use Rattle.pair_protocol.specs.World.{LogEntry, Acknowledgement, ImagePart, Released, WriteDone, SectorRead}
use Rattle.host_law.specs.Frame.{Frame, Carries, AsksSector, TellsKeys, AsksArbiter, Key, AreAccepted, HasWon, HasLost, MayBegin, Recruits, Act, quiet, taking, sending, answering}

-- the node does not refuse a call
abbrev pub Passes : {S : Type 0} → Node S → (Node S → Option Fault) → Type 0
Passes x part = at_node (Some x) part ≡ None

-- a byte has a terminal to go to
abbrev pub HasPort : OpId → Type 0
HasPort (id.Byte port number) = port < PORTS
HasPort (id.Write number) = Unit {0}

-- a host that joins a generation
abbrev pub recruit : {S : Type 0} → Machine S → Copying S → ℕ → ℕ → Reads → List Timed → Node S
recruit M C generation count reads list = record (blank Joining generation reads M.boot) {
  copy = list;
  start = count;
  parts = replicate C.part_count None;
}

-- the machine has taken the keys of the node's list, at each port
abbrev pub HasTakenKeys : {S : Type 0} → Machine S → Node S → Type 0
HasTakenKeys M x = (port : ℕ) → port < PORTS → M.keys x.machine port ≡ length (keys port x.list)

-- one call of its node, with the frames that go with it
pub data HostStep {S : Type 0} (M : Machine S) (C : Copying S) (me : ℕ) (x : Node S) : Act → Node S → Type 0 where
  -- its machine makes steps; it replays what it holds; it drains; pages are copied early
  Steps : (turns made count : ℕ) (why : StopReason) (y : Node S) → Passes x (step_refusal M turns) →
      effect.Stepped M turns made count why x y → HostStep M C me x quiet y
  Replays : (turns made : ℕ) (why : ReplayEnd) (y : Node S) → Passes x replay_refusal →
      effect.Replayed M turns made why x y → HostStep M C me x quiet y
  Drains : (turns made : ℕ) (why : ReplayEnd) (y : Node S) → Passes x drain_refusal →
      effect.Drained M turns made why x y → HostStep M C me x quiet y
  Freshens : Passes x freshen_refusal → HostStep M C me x quiet x
  -- it halts
  Stops : (y : Node S) → Passes x stop_refusal → effect.Halted x y → HostStep M C me x quiet y
  -- it takes an input: a key, the acceptance of a byte, the completion of a write, a sector
  TakesKey : (port index byte : ℕ) (y : Node S) → Passes x (take_key_refusal M port index) →
      effect.Took M (input.Rx port byte) x y → HostStep M C me x (taking (Key port index byte)) y
  TakesAcceptance : (port number count : ℕ) (y : Node S) → Passes x (tell_sent_refusal M port number) →
      1 ≤ number → number ≤ count → effect.Took M (input.Sent port) x y →
      HostStep M C me x (taking (AreAccepted port count)) y
  TakesDone : (number : ℕ) (y : Node S) → Passes x (put_reply_refusal M number) →
      effect.Took M (input.Written number) x y → HostStep M C me x (taking (Carries (WriteDone number))) y
  TakesSector : (address : SectorAddress) (number : ℕ) (bytes : List ℕ) (y : Node S) →
      Passes x (get_reply_refusal M address number bytes) →
      effect.Took M (input.Sector address.drive address.sector number bytes) x y →
      HostStep M C me x (taking (Carries (SectorRead address number bytes))) y
  -- the bytes of a sector that it waits for come
  TakesRead : (address : SectorAddress) (number : ℕ) (bytes : List ℕ) (y : Node S) →
      Passes x (fetched_refusal M address number) → effect.Fetched bytes x y →
      HostStep M C me x (taking (Carries (SectorRead address number bytes))) y
  -- it asks the disk for the sector under the head, or for the one that it waits for
  AsksUnder : (sector : ℕ) (address : SectorAddress) → Passes x (get_refusal M) → IsUnder M sector address x →
      HostStep M C me x (sending (AsksSector address)) x
  AsksWanted : (address : SectorAddress) → Passes x (fetch_refusal M) → Wants M address x →
      HostStep M C me x (sending (AsksSector address)) x
  -- the log: it sends an entry, takes one, acknowledges, and takes an acknowledgement
  SendsEntry : (index : ℕ) (e : Entry) → Passes x (send_refusal index) → HasEntry index e x →
      HostStep M C me x (sending (Carries (LogEntry x.generation index e))) x
  TakesEntry : (generation index : ℕ) (e : Entry) (next : Bool) (y : Node S) →
      Passes x (deliver_log_refusal generation) → effect.Held index e next x y →
      HostStep M C me x (taking (Carries (LogEntry generation index e))) y
  Acknowledges : (held replayed : ℕ) → Passes x acknowledge_refusal → HasHeld held replayed x →
      HostStep M C me x (sending (Carries (Acknowledgement x.generation held replayed))) x
  TakesAcknowledgement : (generation held replayed covered : ℕ) (y : Node S) →
      Passes x (deliver_acknowledgement_refusal generation held) → effect.Heard held replayed covered x y →
      HostStep M C me x (taking (Carries (Acknowledgement generation held replayed))) y
  -- it releases an operation, and tells a terminal how many keys are covered
  Releases : (name : OpId) (o : Operation) → HasPort name → Passes x (release_refusal M name) →
      HasOutstanding M name o x → HostStep M C me x (sending (Carries (Released o))) x
  Tells : (port keys : ℕ) → port < PORTS → Passes x told_refusal → HasCovered M port keys x →
      HostStep M C me x (sending (TellsKeys port keys)) x
  -- it asks the arbiter; it goes on in its role until it is answered
  Asks : Passes x suspect_refusal → HostStep M C me x (sending (AsksArbiter me x.generation)) x
  Wins : Passes x suspect_refusal → (x.role ≡ Primary) ⊎ (x.role ≡ Backup) →
      HostStep M C me x (taking (HasWon x.generation me)) (wins x)
  Loses : (y : Node S) → Passes x stop_refusal → effect.Halted x y →
      HostStep M C me x (taking (HasLost x.generation me)) y
  -- it begins the next generation, if that has a host; the host of that number joins it
  BeginsPair : Passes x begin_pair_refusal →
      HostStep M C me x
      (answering (MayBegin (suc x.generation)) (Recruits (suc x.generation) (M.count x.machine) x.reads x.list)) (begun M x)
  Joins : (count : ℕ) (reads : Reads) (list : List Timed) → x.role ≡ Spare →
      HostStep M C me x (taking (Recruits me count reads list)) (recruit M C me count reads list)
  -- the image: it sends a part, and takes one
  SendsPart : (index : ℕ) (part : List ℕ) → Passes x (send_part_refusal C index) → HasPart C index part x →
      HostStep M C me x (sending (Carries (ImagePart x.generation index part))) x
  TakesPart : (generation index : ℕ) (part : List ℕ) (r : Reply) (y : Node S) →
      Passes x (part_comes_refusal generation) → GotPart C index part x r y →
      HostStep M C me x (taking (Carries (ImagePart generation index part))) y
  -- a frame that its node refuses, or for which there is no memory, is dropped
  Drops : (frame : Frame) → HostStep M C me x (taking frame) x
  -- nothing is promised of a node that is alone with a machine which has not taken the keys of its list: it was given
  -- parts, or a list, that no pair sent. No fleet has such a node
  Strays : (act : Act) → x.role ≡ Alone → (HasTakenKeys M x → ⊥) → HostStep M C me x act x

-- one call after another
pub data HostRun {S : Type 0} (M : Machine S) (C : Copying S) (me : ℕ) : Node S → List Act → Node S → Type 0 where
  Rests : {x : Node S} → HostRun M C me x [] x
  Goes : {x mid y : Node S} {act : Act} {acts : List Act} → HostStep M C me x act mid → HostRun M C me mid acts y →
      HostRun M C me x (act ∷ acts) y
