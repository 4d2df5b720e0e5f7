-- Which node of the law the host of a process has.
use Rattle.std.specs.Prelude.{◌≡◌, ◌≢◌, ℕ}
use Rattle.ft_node.specs.AnyNode.{IsNode}
use Rattle.guest_lockstep.specs.Machine.{Machine}
use Rattle.guest_lockstep.specs.declared.reads.Reads.TheVariants.{Shared}
use Rattle.host_calls.specs.Follows.{Follows}
use Rattle.pair_protocol.specs.Copying.{Copying}
use Rattle.pair_protocol.specs.Node.{Node, Spare}
use Rattle.ft_node.specs.declared.node.Node as code
use Rattle.host_node.specs.declared.host.HostNode.{HostNode}
use Rattle.host_node.specs.declared.host.Hosted.{Hosted}
pub use Rattle.host_node.specs.declared.host.Hosted.TheVariants as hosted

-- a node of the code is the law's node of a host, which is no spare
pub record Stands {B S : Type 0} {H : Type 0} (state : B → S) (M : Machine S) (C : Copying S) (drives : ℕ)
    (node : code.Node B H) (x : Node S) : Type 0 where
  pub y : Node S
  pub follows : Follows M x y
  pub is : IsNode state M C drives node y
  pub other : y.role ≢ Spare
  -- the log of a pair of processes always leaves sectors to the shared disk
  pub reads : y.reads ≡ Shared

-- what a host has is the node of the host of this number in the law; of a host whose node has halted nothing is said, as
-- it does nothing more
abbrev pub HasNode : {B S : Type 0} {H : Type 0} → (B → S) → Machine S → Copying S → (drives number me : ℕ) → Hosted B H
    → Node S → Type 0
HasNode state M C drives number me (hosted.Spare callbacks) x = x.role ≡ Spare
HasNode state M C drives number me (hosted.Node node) x = (number ≡ me) × Stands state M C drives node x
HasNode state M C drives number me hosted.Halted x = Unit {0}

abbrev pub IsHosted : {B S : Type 0} {H : Type 0} → (B → S) → Machine S → Copying S → (drives me : ℕ) → HostNode B H
    → Node S → Type 0
IsHosted state M C drives me h x = HasNode state M C drives h.number me h.node x

-- a host that is no spare any longer keeps its number
abbrev pub HasJoined : {B : Type 0} {H : Type 0} → Hosted B H → Type 0
HasJoined (hosted.Spare callbacks) = ⊥
HasJoined (hosted.Node node) = Unit {0}
HasJoined hosted.Halted = Unit {0}

-- it is the same host: its number, the drives of the pair's machines, and the rings of its mail
pub record SameHost {B : Type 0} {H : Type 0} (old new : HostNode B H) : Type 0 where
  pub number : new.number ≡ old.number
  pub drives : new.drives ≡ old.drives
  pub rings : new.mail.rings ≡ old.mail.rings

-- this is its number, if it has one
abbrev pub IsNumber : {B : Type 0} {H : Type 0} → ℕ → HostNode B H → Type 0
IsNumber me h = HasJoined h.node → h.number ≡ me
