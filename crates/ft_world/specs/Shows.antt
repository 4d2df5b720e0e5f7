-- Which worlds of the protocol a running world shows.
use Rattle.std.specs.Prelude.{◌≡◌, ℕ, true, Option, Some, None, List, length, slice_get}
use Rattle.event_callbacks.specs.declared.devices.TheConstants.{PORTS}
use Rattle.guest_lockstep.specs.Machine.{Machine}
use Rattle.guest_lockstep.specs.declared.replay_end.ReplayEnd.{ReplayEnd}
use Rattle.guest_lockstep.specs.declared.replay_end.ReplayEnd.TheVariants.{Turns, End, Wait, Memory}
use Rattle.terminals.specs.Screen.{Screen}
use Rattle.pair_protocol.specs.Copying.{Copying}
use Rattle.pair_protocol.specs.Node.{Node, Spare}
use Rattle.pair_protocol.specs.Settled.{list_of, count_in, is_backup}
use Rattle.pair_protocol.specs.World as protocol
use Rattle.ft_node.specs.Roles.{node_count}
use Rattle.ft_node.specs.AnyNode.{IsNode, IsRole}
use Rattle.ft_world.specs.Words.{IsMessage}
use Rattle.ft_world.specs.declared.host.Host.{Host}
use Rattle.ft_world.specs.declared.host.Host.TheVariants as host
use Rattle.ft_world.specs.declared.hosts.NodeStatus.{NodeStatus}
use Rattle.ft_world.specs.declared.station.Station.{Station}
use Rattle.ft_world.specs.declared.message.Message.{Message}

-- a node with its list of inputs and its count, by which it settles
pub record IsStation {B H S : Type 0} (state : B → S) (M : Machine S) (C : Copying S) (drives : ℕ) (h : Station B H)
    (x : Node S) : Type 0 where
  pub node : IsNode state M C drives h.node x
  pub inputs : h.inputs ≡ list_of x x.role
  pub count : h.count ≡ count_in M x x.role
  pub a_node : x.role ≡ Spare → ⊥

-- the count by which a node settles after a drain: its machine's if nothing is left, and the same as before if not
abbrev pub drained_count : ReplayEnd → ℕ → ℕ → ℕ
drained_count Turns before alone = before
drained_count End before alone = alone
drained_count Wait before alone = before
drained_count Memory before alone = before

-- a host: a node, or one that has no role yet
abbrev pub IsHost : {B H S : Type 0} → (B → S) → Machine S → Copying S → ℕ → Host B H → Node S → Type 0
IsHost state M C drives (host.Node h) x = IsStation state M C drives h x
IsHost state M C drives (host.Spare resources) x = x.role ≡ Spare

-- two lists agree place by place
abbrev pub Agree : {A B : Type 0} → (A → B → Type 0) → Option A → Option B → Type 0
Agree P (Some a) (Some b) = P a b
Agree P None None = Unit {0}
Agree P _ _ = ⊥

abbrev pub AreHosts : {B H S : Type 0} → (B → S) → Machine S → Copying S → ℕ → List (Host B H) → List (Node S)
    → Type 0
AreHosts state M C drives hosts nodes = (n : ℕ) → Agree (IsHost state M C drives) (slice_get hosts n) (slice_get nodes n)

pub record AreMessages (messages : List Message) (sent : List protocol.Message) : Type 0 where
  pub count : length messages ≡ length sent
  pub each : (m : ℕ) → Agree IsMessage (slice_get messages m) (slice_get sent m)

-- a terminal has accepted what its arrivals gave
pub record IsTerminal (screen : Screen) (t : protocol.Terminal) : Type 0 where
  pub accepted : screen.accepted ≡ protocol.accepted_after 0 t.arrivals
  pub typed : screen.typed ≡ t.typed
  pub told : screen.told ≡ t.told

pub record AreTerminals (screens : List Screen) (terminals : List protocol.Terminal) : Type 0 where
  pub ports : length screens ≡ PORTS
  pub count : length terminals ≡ PORTS
  pub each : (port : ℕ) → Agree IsTerminal (slice_get screens port) (slice_get terminals port)

-- only the node of this number may be the backup of this generation
abbrev pub IsOnlyBackup : {S : Type 0} → List (Node S) → ℕ → ℕ → Type 0
IsOnlyBackup {S} nodes generation backup =
    (n : ℕ) (x : Node S) → slice_get nodes n ≡ Some x → x.generation ≡ generation → is_backup x.role ≡ true
    → n ≡ backup

-- what a node shows of itself; a number that no node has shows nothing
pub record IsStatus {S : Type 0} (M : Machine S) (x : Node S) (status : NodeStatus) : Type 0 where
  pub role : IsRole x status.role
  pub generation : status.generation ≡ x.generation
  pub count : status.count ≡ node_count M x x.role
  pub a_node : x.role ≡ Spare → ⊥

abbrev pub IsStatusAt : {S : Type 0} → Machine S → Option (Node S) → Option NodeStatus → Type 0
IsStatusAt M (Some x) (Some status) = IsStatus M x status
IsStatusAt M (Some x) None = x.role ≡ Spare
IsStatusAt M None (Some status) = ⊥
IsStatusAt M None None = Unit {0}
