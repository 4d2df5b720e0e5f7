-- The processes of a pair: the hosts and the outside, and the streams between them.
use Rattle.std.specs.Prelude.{◌≡◌, ℕ, zero, suc, ◌<◌, Option, Some, List, [], length, slice_get}
use Rattle.ft_node.specs.AnyNode.{IsNode}
use Rattle.ft_node.specs.declared.node.Node as code
use Rattle.guest_lockstep.specs.Machine.{Machine}
use Rattle.guest_lockstep.specs.declared.reads.Reads.TheVariants.{Shared}
use Rattle.host_frames.specs.Frames.{framed}
use Rattle.host_node.specs.declared.host.HostNode.{HostNode}
use Rattle.host_node.specs.declared.host.Hosted.TheVariants as hosted
use Rattle.outside_switch.specs.Held.{at_boot}
use Rattle.outside_switch.specs.Goes.{first_number}
use Rattle.outside_switch.specs.Lines.{Pushed, number_at}
use Rattle.outside_switch.specs.Meets.{Seen}
use Rattle.pair_protocol.specs.Copying.{Copying}
use Rattle.pair_protocol.specs.Lawful.{Among}
use Rattle.pair_protocol.specs.Node.{Primary, Backup, Role, first_node}
use Rattle.pair_protocol.specs.SharedDevices.{IsDisk}
use Rattle.shared_disk.specs.declared.store.Record.{Record}

-- the hosts by their places, the outside, and all frames that it has pushed to them so far
pub record Processes (B : Type 0) (H : Type 0) : Type 0 where
  pub hosts : List (HostNode B H)
  pub outside : Seen
  pub pushed : List Pushed

-- ---- streams

-- A stream delivers only what was written to it: each of these bodies is that of one of these frames. It may lose, repeat and
-- reorder them.
abbrev pub Delivered : (bodies frames : List (List ℕ)) → Type 0
Delivered bodies frames = (body : List ℕ) → Among body bodies → Among (framed body) frames

-- a body was delivered that the host at a place has said
pub record IsFromHost {B : Type 0} {H : Type 0} (hosts : List (HostNode B H)) (place : ℕ) (body : List ℕ) : Type 0 where
  pub host : HostNode B H
  pub there : slice_get hosts place ≡ Some host
  pub said : Among (framed body) host.mail.gone

-- ---- how they begin

-- a host of generation 1
pub record BeginsAs {B S : Type 0} {H : Type 0} (state : B → S) (M : Machine S) (C : Copying S) (drives place : ℕ) (role : Role)
    (h : HostNode B H) : Type 0 where
  pub node : code.Node B H
  pub has : h.node ≡ hosted.Node node
  pub is : IsNode state M C drives node (first_node M Shared role)
  pub number : h.number ≡ place

-- the primary is at place 0 and the backup at place 1; all others are spare
abbrev pub BeginsAt : {B S : Type 0} {H : Type 0} → (B → S) → Machine S → Copying S → (drives place : ℕ) → HostNode B H → Type 0
BeginsAt state M C drives zero h = BeginsAs state M C drives 0 Primary h
BeginsAt state M C drives (suc zero) h = BeginsAs state M C drives 1 Backup h
BeginsAt {H = H} state M C drives (suc (suc place)) h = (callbacks : H) × (h.node ≡ hosted.Spare callbacks)

-- a host has booted, and nothing has come to it or gone from it
pub record HasBooted {B S : Type 0} {H : Type 0} (state : B → S) (M : Machine S) (C : Copying S) (drives place : ℕ)
    (h : HostNode B H) : Type 0 where
  pub begins : BeginsAt state M C drives place h
  pub drives_are : h.drives ≡ drives
  pub came : h.mail.came ≡ []
  pub gone : h.mail.gone ≡ []

-- the outside has a line to each host, and a disk on which nothing is written
pub record OutsideHasBooted {S : Type 0} (M : Machine S) (drives places : ℕ) (o : Seen) : Type 0 where
  pub records : List Record
  pub may_fail : Option ℕ
  pub disk : IsDisk M drives records []
  pub devices : o.devices ≡ record (at_boot records may_fail) { hosts = 2 }
  pub lines : length o.lines ≡ places
  pub numbers : (place : ℕ) → place < places → number_at o.lines place ≡ first_number place

-- all have booted, for machines of so many drives
pub record HaveBooted {B S : Type 0} {H : Type 0} (state : B → S) (M : Machine S) (C : Copying S) (drives : ℕ)
    (p : Processes B H) : Type 0 where
  pub hosts : (place : ℕ) (h : HostNode B H) → slice_get p.hosts place ≡ Some h → HasBooted state M C drives place h
  pub outside : OutsideHasBooted M drives (length p.hosts) p.outside
  pub pushed : p.pushed ≡ []
