-- How hosts begin: as those of the law do.
use Rattle.std.specs.Prelude.{◌≡◌, ℕ, ◌⊎◌}
use Rattle.ft_node.specs.AnyNode.{IsNode}
use Rattle.ft_node.specs.Calls as calls
use Rattle.ft_node.specs.declared.node.Node as code
use Rattle.guest_lockstep.specs.Machine.{Machine}
use Rattle.guest_lockstep.specs.declared.reads.Reads.TheVariants.{Shared}
use Rattle.host_node.specs.Hosts.{IsHosted}
use Rattle.host_node.specs.declared.host.HostNode.{HostNode}
use Rattle.host_node.specs.declared.host.Hosted.TheVariants as hosted
use Rattle.pair_protocol.specs.Copying.{Copying}
use Rattle.pair_protocol.specs.Node.{Node, Role, Primary, Backup, first_node, spare}

-- a node at boot in this role of generation 1, as `Node::primary` and `Node::backup` make it
abbrev pub IsAtBoot : {B S : Type 0} {H : Type 0} → (B → S) → Machine S → Copying S → (drives : ℕ) → Role → code.Node B H → Type 0
IsAtBoot {S = S} state M C drives role node = (x : Node S) → calls.Begins M role 1 Shared M.boot x → IsNode state M C drives node x

-- a host with such a node has the first node of the law, and one without a node the law's spare, whatever its number will be
pub record Boots {B S : Type 0} (H : Type 0) (state : B → S) (M : Machine S) (C : Copying S) : Type 0 where
  pub node : (h : HostNode B H) (node : code.Node B H) (role : Role) → (role ≡ Primary) ⊎ (role ≡ Backup) →
      h.node ≡ hosted.Node node → IsAtBoot state M C h.drives role node →
      IsHosted state M C h.drives h.number h (first_node M Shared role)
  pub spare_one : (h : HostNode B H) (callbacks : H) (me : ℕ) → h.node ≡ hosted.Spare callbacks →
      IsHosted state M C h.drives me h (spare M)

abbrev pub HostsBoot : (B H S : Type 0) → Type 0
HostsBoot B H S = (state : B → S) (M : Machine S) (C : Copying S) → Boots H state M C
