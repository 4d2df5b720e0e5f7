-- The laws: whatever the processes of a pair do, they are a fleet of the law of processes; so what holds of every fleet holds of
-- them.
use Rattle.std.specs.Prelude.{◌≡◌, ◌⊎◌, ℕ, Some, List, slice_get}
use Rattle.clone_state.specs.Copies.{CopiesAs}
use Rattle.ft_node.specs.AnyNode.{IsNode}
use Rattle.ft_node.specs.declared.alone.Alone as alone
use Rattle.ft_node.specs.declared.node.Node as code
use Rattle.ft_node.specs.declared.node.Node.TheVariants as node
use Rattle.guest_lockstep.specs.Machine.{Machine}
use Rattle.guest_lockstep.specs.Reach.{keys, output}
use Rattle.guest_lockstep.specs.declared.reads.Reads.TheVariants.{Shared}
use Rattle.guest_parts.specs.Guest.{Guest}
use Rattle.host_calls.specs.Follows.{Lags}
use Rattle.host_law.specs.Fleet.{Deed, Fleet, Happened, booted}
use Rattle.host_law.specs.Kept.{IsKept}
use Rattle.host_node.specs.Hosts.{IsHosted}
use Rattle.host_node.specs.declared.host.HostNode.{HostNode}
use Rattle.host_node.specs.declared.host.Hosted.TheVariants as hosted
use Rattle.outside_switch.specs.Shown.{Shows}
use Rattle.outside_switch.specs.Lines.{number_at}
use Rattle.outside_switch.specs.Passing.{Passed, shown_at, typed_at}
use Rattle.pair_protocol.specs.Copying.{Copying, IsCopying}
use Rattle.pair_protocol.specs.Faithful.{IsAllBut, IsPrefix}
use Rattle.pair_protocol.specs.Lawful.{Lawful}
use Rattle.pair_protocol.specs.Node.{Node}
use Rattle.pair_protocol.specs.World.{accepted_in, terminal_in}
use Rattle.command_console.specs.Processes.{HaveBooted, Processes}
use Rattle.command_console.specs.Runs.{Runs, passed_on}

-- the host at a place is this one of the fleet
pub record IsHostOf {B S : Type 0} {H : Type 0} (state : B → S) (M : Machine S) (C : Copying S) (drives n : ℕ) (f : Fleet S)
    (h : HostNode B H) : Type 0 where
  pub x : Node S
  pub there : slice_get f.hosts n ≡ Some x
  pub is : IsHosted state M C drives n h x

-- A fleet of the law has come here from its boot. The devices show its outside, whose terminals have accepted the bytes that were
-- shown, in order and each once, and at which the keys were typed; each place has another one of its hosts: that of its number, if
-- the outside has given it one.
pub record AreFleet {B S : Type 0} {H : Type 0} (state : B → S) (M : Machine S) (C : Copying S) (drives : ℕ)
    (passed : List Passed) (p : Processes B H) : Type 0 where
  pub spares : ℕ
  pub deeds : List Deed
  pub fleet : Fleet S
  pub happened : Happened M C (booted M Shared spares) deeds fleet
  pub devices : Shows M drives p.outside.devices fleet.outside
  pub shown : (port : ℕ) → accepted_in fleet.outside.terminals port ≡ shown_at port passed
  pub typed : (port : ℕ) → (terminal_in fleet.outside.terminals port).typed ≡ typed_at port passed
  pub host_at : ℕ → ℕ
  pub numbered : (place n : ℕ) → number_at p.outside.lines place ≡ Some n → host_at place ≡ n
  pub apart : (m n : ℕ) → host_at m ≡ host_at n → m ≡ n
  pub hosts : (place : ℕ) (h : HostNode B H) → slice_get p.hosts place ≡ Some h →
      IsHostOf state M C drives (host_at place) fleet h

abbrev pub ProcessesAreAFleet : (B H S : Type 0) → Type 0
ProcessesAreAFleet B H S =
    (state : B → S) (M : Machine S) (copied : B → Guest) (C : Copying S) (drives : ℕ) →
    CopiesAs state copied drives C.parts C.part_count C.assemble → (first last : Processes B H) →
    HaveBooted state M C drives first → (way : Runs state M copied first last) →
    AreFleet state M C drives (passed_on way) last

-- ---- so the devices have what one machine gives, and at most one host is alone

-- the node of a host is the one of the fleet, or a backup's that has run ahead of it
pub record IsNodeOf {B S : Type 0} {H : Type 0} (state : B → S) (M : Machine S) (C : Copying S) (drives n : ℕ) (f : Fleet S)
    (node : code.Node B H) : Type 0 where
  pub x : Node S
  pub y : Node S
  pub there : slice_get f.hosts n ≡ Some x
  pub is : IsNode state M C drives node y
  pub same : (y ≡ x) ⊎ Lags M x y

-- the host at a place has a node that is alone
pub record HasAlone {B : Type 0} {H : Type 0} (p : Processes B H) (place : ℕ) : Type 0 where
  pub host : HostNode B H
  pub found : alone.Alone B
  pub there : slice_get p.hosts place ≡ Some host
  pub has : host.node ≡ hosted.Node (node.Alone found)

-- The outside's terminals and its disk have what one never-failing machine gives. What was shown is what that one puts out, or
-- all of it but the last bytes of a window, and the keys that it takes are the first of those that were typed.
pub record AreKept {B S : Type 0} {H : Type 0} (state : B → S) (M : Machine S) (C : Copying S) (drives : ℕ)
    (passed : List Passed) (p : Processes B H) : Type 0 where
  pub are : AreFleet state M C drives passed p
  pub kept : IsKept M are.fleet
  pub shown : (port : ℕ) → IsAllBut M.window_size (shown_at port passed) (output port kept.trace)
  pub typed : (port : ℕ) → IsPrefix (keys port kept.list) (typed_at port passed)
  pub nodes : (place : ℕ) (h : HostNode B H) (node : code.Node B H) → slice_get p.hosts place ≡ Some h →
      h.node ≡ hosted.Node node → IsNodeOf state M C drives (are.host_at place) are.fleet node
  pub one_live : (m n : ℕ) → HasAlone p m → HasAlone p n → m ≡ n

abbrev pub ProcessesAreKept : (B H S : Type 0) → Type 0
ProcessesAreKept B H S =
    (state : B → S) (M : Machine S) (copied : B → Guest) (C : Copying S) (drives : ℕ) → Lawful M → IsCopying M C →
    CopiesAs state copied drives C.parts C.part_count C.assemble → (first last : Processes B H) →
    HaveBooted state M C drives first → (way : Runs state M copied first last) →
    AreKept state M C drives (passed_on way) last
