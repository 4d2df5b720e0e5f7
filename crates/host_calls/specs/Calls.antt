-- Each call of a node is a step of its host: what the call promises of the node before it and after it, with the frames
-- that go with it.
use Rattle.std.specs.Prelude.{◌≡◌, ℕ, suc, ◌<◌, ◌≤◌, ◌⊎◌, Bool, Option, Some, None, Ok, List, unwrap_or}
use Rattle.std.specs.Global.{Vec}
use Rattle.arbiter_core.specs.Winners.{winner_of}
use Rattle.arbiter_core.specs.declared.arbiter.Asking.{Asking}
use Rattle.arbiter_core.specs.declared.arbiter.Won.{Won}
use Rattle.clone_state.specs.Parts.{PartMessage}
use Rattle.disk_dcdd.specs.declared.address.SectorAddress.{SectorAddress}
use Rattle.event_callbacks.specs.declared.devices.TheConstants.{PORTS}
use Rattle.event_callbacks.specs.declared.operations.OpId.{OpId}
use Rattle.event_callbacks.specs.declared.operations.Operation.{Operation}
use Rattle.guest_lockstep.specs.Machine.{Machine}
use Rattle.guest_lockstep.specs.declared.input.Input.TheVariants as input
use Rattle.guest_lockstep.specs.declared.reads.Reads.{Reads}
use Rattle.guest_lockstep.specs.declared.timed.Timed.{Timed}
use Rattle.log_channel.specs.declared.packet.Packet.TheVariants.{Log, Ack}
use Rattle.log_entry.specs.declared.entry.Entry.{Entry}
use Rattle.pair_protocol.specs.Copying.{Copying}
use Rattle.pair_protocol.specs.Node.{Node, Primary, Backup, Spare, first_node}
use Rattle.pair_protocol.specs.Refusals as refusals
use Rattle.pair_protocol.specs.World.{LogEntry, Acknowledgement, ImagePart, Released, WriteDone, SectorRead}
use Rattle.replayer.specs.declared.replayer.Replayed.{Replayed}
use Rattle.ft_node.specs.AnyNode.{IsNode}
use Rattle.ft_node.specs.Calls as calls
use Rattle.ft_node.specs.Checked as checked
use Rattle.ft_node.specs.declared.node.Node as code
use Rattle.ft_node.specs.declared.ran.Drained.{Drained}
use Rattle.ft_node.specs.declared.ran.PartCame.{PartCame}
use Rattle.ft_node.specs.declared.ran.Ran.{Ran}
use Rattle.host_law.specs.Frame.{Carries, AsksSector, TellsKeys, Key, AreAccepted, HasWon, HasLost, MayBegin, Recruits, quiet, sending, taking, answering}
use Rattle.host_law.specs.Host.{HasPort, HostStep, recruit}
use Rattle.host_calls.specs.Made.{Made, Said}

pub record AreSteps {S : Type 0} (M : Machine S) (C : Copying S) (me : ℕ) (x : Node S) (Is : Node S → Type 0)
    : Type 0 where
  -- moves of its machine, and a halt
  pub step : (turns : ℕ) (ran : Ran) → checked.Steps M turns x (Ok ran) Is → Made M C me x quiet Is
  pub replay : (turns : ℕ) (r : Replayed) → checked.Replays M turns x (Ok r) Is → Made M C me x quiet Is
  pub drain : (turns : ℕ) (d : Drained) → checked.Drains M turns x (Ok d) Is → Made M C me x quiet Is
  pub freshen : (left : ℕ) → calls.Freshens x (Ok left) Is → Made M C me x quiet Is
  pub stop : calls.Stops x (Ok tt) Is → Made M C me x quiet Is
  -- inputs
  pub key : (port index byte : ℕ) →
      calls.Takes M (input.Rx port byte) (refusals.take_key_refusal M port index x) x (Ok tt) Is →
      Made M C me x (taking (Key port index byte)) Is
  pub sent : (port number count : ℕ) → 1 ≤ number → number ≤ count →
      calls.Takes M (input.Sent port) (refusals.tell_sent_refusal M port number x) x (Ok tt) Is →
      Made M C me x (taking (AreAccepted port count)) Is
  pub done : (number : ℕ) →
      calls.Takes M (input.Written number) (refusals.put_reply_refusal M number x) x (Ok tt) Is →
      Made M C me x (taking (Carries (WriteDone number))) Is
  pub under : (address : SectorAddress) (number : ℕ) (bytes : List ℕ) →
      calls.Takes M (input.Sector address.drive address.sector number bytes)
      (refusals.get_reply_refusal M address number bytes x) x (Ok tt) Is →
      Made M C me x (taking (Carries (SectorRead address number bytes))) Is
  pub fetched : (address : SectorAddress) (number : ℕ) (bytes : List ℕ) →
      calls.Fetches M address number bytes x (Ok tt) Is → Made M C me x (taking (Carries (SectorRead address number bytes))) Is
  -- the log
  pub on_log : (generation index : ℕ) (e : Entry) (next : Bool) →
      calls.DeliversLog calls.NeedsRoom (Some (Log generation index e)) x (Ok next) Is →
      Made M C me x (taking (Carries (LogEntry generation index e))) Is
  pub on_ack : (generation held : ℕ) (reports : Option ℕ) (covered : ℕ) →
      calls.DeliversAcknowledgement (Some (Ack generation held reports)) x (Ok covered) Is →
      Made M C me x
      (taking (Carries (Acknowledgement generation held (unwrap_or reports 0)))) Is
  pub packet : (index : ℕ) (bytes : Vec ℕ) → calls.Sends index x (Ok bytes) → Said M C me x bytes
  pub ack : (bytes : Vec ℕ) → calls.Acknowledges x (Ok bytes) → Said M C me x bytes
  -- what goes to the devices
  pub release : (name : OpId) (o : Operation) → HasPort name → calls.Releases M name x (Ok o) →
      HostStep M C me x (sending (Carries (Released o))) x
  pub told : (port keys : ℕ) → port < PORTS → calls.Tells M port x (Ok keys) →
      HostStep M C me x (sending (TellsKeys port keys)) x
  pub place : (sector : ℕ) (address : SectorAddress) → calls.Gets M sector x (Ok address) →
      HostStep M C me x (sending (AsksSector address)) x
  pub wanted : (address : SectorAddress) → calls.Wanted M x (Ok address) → HostStep M C me x (sending (AsksSector address)) x
  -- the arbiter's answer: the node asks an arbiter of its own, to which the answer was told
  pub wins : (old new : List Asking) (won : Won) → (x.role ≡ Primary) ⊎ (x.role ≡ Backup) →
      winner_of old x.generation ≡ None → calls.Suspects old me x (Ok won) new Is →
      Made M C me x (taking (HasWon x.generation me)) Is
  pub loses : calls.Stops x (Ok tt) Is → Made M C me x (taking (HasLost x.generation me)) Is
  -- a generation begins
  pub begin : (generation : ℕ) → calls.BeginsPair M x (Ok generation) Is →
      Made M C me x
      (answering (MayBegin (suc x.generation)) (Recruits (suc x.generation) (M.count x.machine) x.reads x.list)) Is
  pub send_part : (index : ℕ) (bytes : Vec ℕ) → calls.SendsPart C index x (Ok bytes) → Said M C me x bytes
  pub part : (m : PartMessage) (came : PartCame) → calls.GetsPart C (Some m) x (Ok came) Is →
      Made M C me x (taking (Carries (ImagePart m.generation m.index m.payload))) Is

-- whatever node of the code the host has after the call
abbrev pub CallsAreSteps : (B H S : Type 0) → Type 0
CallsAreSteps B H S =
    (state : B → S) (M : Machine S) (C : Copying S) (drives me : ℕ) (x : Node S) → (x.role ≡ Spare → ⊥) →
    (after : code.Node B H) → AreSteps M C me x (IsNode state M C drives after)

-- how the nodes of hosts begin
abbrev pub HostsBegin : (S : Type 0) → Type 0
HostsBegin S =
    (M : Machine S) (C : Copying S) (reads : Reads) →
    calls.Begins M Primary 1 reads M.boot (first_node M reads Primary)
    × calls.Begins M Backup 1 reads M.boot (first_node M reads Backup)
    × ((generation count : ℕ) (list : List Timed) →
    calls.Joins C generation count reads (recruit M C generation count reads list))
