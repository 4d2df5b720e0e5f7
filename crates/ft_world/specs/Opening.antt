-- How a generation begins with a copied machine.
use Rattle.std.specs.Prelude.{◌≡◌, ℕ, suc, Option, Some, None, List, slice_get, slice_set}
use Rattle.guest_lockstep.specs.Machine.{Machine}
use Rattle.guest_lockstep.specs.declared.timed.Timed.{Timed}
use Rattle.i8080_words.specs.declared.refusal.Fault.{Fault}
use Rattle.i8080_words.specs.declared.refusal.Fault.TheVariants.{Unknown, WrongRole}
use Rattle.clone_state.specs.Parts.{part_count}
use Rattle.pair_protocol.specs.Copying.{Copying}
use Rattle.pair_protocol.specs.Node.{Joining, Node, begun}
use Rattle.pair_protocol.specs.Settled.{list_of}
use Rattle.ft_node.specs.Calls.{Joins}
use Rattle.ft_node.specs.AnyNode.{alone_board}
use Rattle.ft_node.specs.declared.ran.NextGeneration.{NextGeneration}
use Rattle.ft_world.specs.declared.host.Host.{Host}
use Rattle.ft_world.specs.declared.host.Host.TheVariants as host
use Rattle.ft_world.specs.declared.opening.Opening.{Opening}
use Rattle.ft_world.specs.declared.station.Station.{Station}
use Rattle.ft_world.specs.Shows.{IsStation}

-- what the host is given that joins this generation: these inputs, and the count up to which they settle the machine
pub record IsOpening (next : NextGeneration) (inputs : List Timed) (count : ℕ) (opening : Opening) : Type 0 where
  pub generation : opening.generation ≡ next.generation
  pub drives_are : opening.assembly.drives ≡ next.drives
  pub reads_are : opening.reads ≡ next.reads
  pub same_inputs : opening.inputs ≡ inputs
  pub same_count : opening.count ≡ count

-- a node is the primary of the next generation; the host that joins it is given the inputs and the count of the machine,
-- for a machine of this many drives, and how the log carries sectors
pub record Opens {S : Type 0} (M : Machine S) (drives : ℕ) (opening : Opening) (inputs : List Timed) (count : ℕ)
    (x y : Node S) : Type 0 where
  pub generation : opening.generation ≡ suc x.generation
  pub drives_are : opening.assembly.drives ≡ drives
  pub reads_are : opening.reads ≡ x.reads
  pub same_inputs : opening.inputs ≡ inputs
  pub same_count : opening.count ≡ count
  pub after : y ≡ begun M x

-- why a generation can't begin with these hosts: there is no such host, or no such node, or the host that would join it has
-- a role
abbrev pub host_refusal : {B H : Type 0} → Option (Host B H) → Option (Host B H) → Option Fault
host_refusal None here = Some Unknown
host_refusal (Some there) None = Some Unknown
host_refusal (Some there) (Some (host.Spare resources)) = Some Unknown
host_refusal (Some (host.Node other)) (Some (host.Node station)) = Some WrongRole
host_refusal (Some (host.Spare resources)) (Some (host.Node station)) = None

-- a host has joined with what it was given: its station shows every node of the protocol that joins with the same
abbrev pub IsJoined : {B H S : Type 0} → (B → S) → Machine S → Opening → Station B H → Type 0
IsJoined {B} {H} {S} state M opening station =
    (C : Copying S) (drives : ℕ) (x : Node S) → C.part_count ≡ part_count drives → opening.assembly.drives ≡ drives
    → Joins C opening.generation opening.count opening.reads x → list_of x Joining ≡ opening.inputs
    → IsStation state M C drives station x

abbrev pub HasJoined : {B H S : Type 0} → (B → S) → Machine S → Opening → Host B H → Type 0
HasJoined state M opening (host.Node station) = IsJoined state M opening station × (alone_board station.node ≡ None)
HasJoined state M opening (host.Spare resources) = ⊥

-- the host of a number has joined so, and the others are as they were
pub record JoinsHosts {B H S : Type 0} (state : B → S) (M : Machine S) (old : List (Host B H)) (n : ℕ) (opening : Opening)
    (new : List (Host B H)) : Type 0 where
  pub joined : Host B H
  pub is : HasJoined state M opening joined
  pub put : new ≡ slice_set old n joined

-- a spare host has this number
abbrev pub HasSpare : {B H : Type 0} → List (Host B H) → ℕ → Type 0
HasSpare {B} {H} hosts n = (resources : H) × (slice_get hosts n ≡ Some (host.Spare resources))
