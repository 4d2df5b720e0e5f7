-- Which nodes may serve, and which events bring them to rest, in the words of the laws.
use Rattle.std.specs.Prelude.{◌≡◌, ℕ, ◌<◌, ◌⊎◌, true, Option, Some, None, slice_get}
use Rattle.pair_events.specs.declared.event.Event.{Event}
use Rattle.pair_events.specs.declared.reply.Role as shown
use Rattle.pair_events.specs.declared.reply.Role.TheVariants as role
use Rattle.pair_protocol.specs.Node.{Node, Role, Primary, Backup, Joining, Draining, Spare}
use Rattle.pair_protocol.specs.World.{World}
use Rattle.ft_node.specs.AnyNode.{IsRole}
use Rattle.pair_progress.specs.CatchingUp.{IsPair}
use Rattle.pair_progress.specs.Completion.{IsCompletion}
use Rattle.pair_progress.specs.Renewal.{IsOfParts}
use Rattle.pair_progress.specs.Settling.{IsPairing}
use Rattle.pair_progress.specs.Takeover.{IsItsOwn, IsLive, MayServe}
use Rattle.pair_shell.specs.declared.serving.ServingNodes.{ServingNodes}
use Rattle.pair_shell.specs.declared.serving.ServingNodes.TheVariants as serving

-- a node that is up, in this role of this generation
pub record Acts {S : Type 0} (w : World S) (n : ℕ) (role : Role) (generation : ℕ) : Type 0 where
  pub x : Node S
  pub there : slice_get w.nodes n ≡ Some x
  pub up : x.running ≡ true
  pub role_is : x.role ≡ role
  pub generation_is : x.generation ≡ generation

-- and nobody has won this generation, or it has: then it may serve
pub record ActsAndMayServe {S : Type 0} (w : World S) (n : ℕ) (role : Role) (generation : ℕ) : Type 0 where
  pub acts : Acts w n role generation
  pub may_serve : MayServe w n acts.x

-- a primary that may serve, and a host that joins it
pub record IsJoined {S : Type 0} (w : World S) (n host generation : ℕ) : Type 0 where
  pub primary : ActsAndMayServe w n Primary generation
  pub joining : Acts w host Joining generation

-- what is said of the nodes of a generation that may serve; that there are none says nothing here
abbrev pub Serves : {S : Type 0} → World S → ℕ → ServingNodes → Type 0
Serves w generation serving.Nobody = Unit {0}
Serves w generation (serving.Primary n) = ActsAndMayServe w n Primary generation
Serves w generation (serving.Backup n) = ActsAndMayServe w n Backup generation
Serves w generation (serving.Draining n) = ActsAndMayServe w n Draining generation
Serves w generation (serving.Alone n) = IsLive w n generation
Serves w generation (serving.Joining n host) = IsJoined w n host generation
Serves w generation (serving.Pair n backup) = IsPair w n backup generation

-- a node is one of these
abbrev pub IsOneOf : ℕ → ServingNodes → Type 0
IsOneOf m serving.Nobody = ⊥
IsOneOf m (serving.Primary n) = m ≡ n
IsOneOf m (serving.Backup n) = m ≡ n
IsOneOf m (serving.Draining n) = m ≡ n
IsOneOf m (serving.Alone n) = m ≡ n
IsOneOf m (serving.Joining n host) = m ≡ n
IsOneOf m (serving.Pair n backup) = (m ≡ n) ⊎ (m ≡ backup)

-- if a primary serves by itself, none of so many hosts joins it
abbrev pub NoneJoins : {S : Type 0} → World S → ℕ → ℕ → ServingNodes → Type 0
NoneJoins w hosts generation (serving.Primary n) = (host : ℕ) → host < hosts → Acts w host Joining generation → ⊥
NoneJoins w hosts generation who = Unit {0}

-- of so many hosts, each that may serve in a generation is one of these; so if there are none, nobody may
pub record AreAll {S : Type 0} (w : World S) (hosts generation : ℕ) (who : ServingNodes) : Type 0 where
  pub each : (n : ℕ) (x : Node S) → n < hosts → x.generation ≡ generation → MayServe w n x → IsOneOf n who
  pub joins : NoneJoins w hosts generation who

-- none of so many hosts may serve in a generation; and some node may
abbrev pub NobodyServes : {S : Type 0} → World S → ℕ → ℕ → Type 0
NobodyServes {S} w hosts generation =
    (n : ℕ) (x : Node S) → n < hosts → x.generation ≡ generation → MayServe w n x → ⊥

pub record SomebodyServes {S : Type 0} (w : World S) (generation : ℕ) : Type 0 where
  pub n : ℕ
  pub x : Node S
  pub generation_is : x.generation ≡ generation
  pub may_serve : MayServe w n x

-- who serves by the role that the winner of a generation shows there; and, of a generation that nobody has won, by its primary, its
-- backup, and the host that joins it
abbrev pub won_as : ℕ → Option shown.Role → ServingNodes
won_as n (Some role.Draining) = serving.Draining n
won_as n (Some role.Alone) = serving.Alone n
won_as n _ = serving.Nobody

abbrev pub undecided_as : Option ℕ → Option ℕ → Option ℕ → ServingNodes
undecided_as (Some n) (Some backup) joining = serving.Pair n backup
undecided_as (Some n) None (Some host) = serving.Joining n host
undecided_as (Some n) None None = serving.Primary n
undecided_as None (Some n) joining = serving.Backup n
undecided_as None None joining = serving.Nobody

-- the node that runs the guest, or will
abbrev pub node_in : ServingNodes → Option ℕ
node_in serving.Nobody = None
node_in (serving.Primary n) = Some n
node_in (serving.Backup n) = Some n
node_in (serving.Draining n) = Some n
node_in (serving.Alone n) = Some n
node_in (serving.Joining n host) = Some n
node_in (serving.Pair n backup) = Some n

-- the events of the laws by which they come to rest: a node goes live by its own; what is outstanding is completed; parts of an
-- image arrive; and a pair logs, repeats and completes
abbrev pub MayCome : ServingNodes → Event → Type 0
MayCome serving.Nobody e = ⊥
MayCome (serving.Primary n) e = IsItsOwn n e
MayCome (serving.Backup n) e = IsItsOwn n e
MayCome (serving.Draining n) e = IsItsOwn n e
MayCome (serving.Alone n) e = IsCompletion n e
MayCome (serving.Joining n host) e = IsOfParts n host e
MayCome (serving.Pair n backup) e = IsPairing n backup e

-- an event is one of those, for the nodes of this generation that may serve
pub record IsOfALaw {S : Type 0} (w : World S) (generation : ℕ) (e : Event) : Type 0 where
  pub who : ServingNodes
  pub serves : Serves w generation who
  pub comes : MayCome who e

-- what a node shows as its role in a generation: none if it is a spare host, or not of that generation
abbrev pub IsRoleIn : {S : Type 0} → World S → ℕ → ℕ → Option shown.Role → Type 0
IsRoleIn {S} w n generation None =
    (x : Node S) → slice_get w.nodes n ≡ Some x → x.generation ≡ generation → x.role ≡ Spare
IsRoleIn {S} w n generation (Some role) =
    (x : Node S) × (slice_get w.nodes n ≡ Some x) × IsRole x role × (x.generation ≡ generation)

-- a node has another role, is a spare host, or is not of that generation; and so is each of so many hosts
abbrev pub HasOtherRole : {S : Type 0} → World S → ℕ → ℕ → shown.Role → Type 0
HasOtherRole {S} w n generation role =
    (x : Node S) → slice_get w.nodes n ≡ Some x → (x.role ≡ Spare → ⊥) → x.generation ≡ generation → IsRole x role → ⊥

abbrev pub HaveOtherRoles : {S : Type 0} → World S → ℕ → ℕ → shown.Role → Type 0
HaveOtherRoles w hosts generation role = (n : ℕ) → n < hosts → HasOtherRole w n generation role
