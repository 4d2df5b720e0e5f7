-- Runs of hosts that rely on the others: a call of a node may promise its step only if the node stands as its role asks,
-- which all processes ensure together. Each step is made if that holds.
use Rattle.std.specs.Prelude.{◌≡◌, ℕ, ◌≤◌, Some, List, [], ◌∷◌, length, slice_get}
use Rattle.guest_lockstep.specs.Machine.{Machine}
use Rattle.guest_lockstep.specs.declared.reads.Reads.{Reads}
use Rattle.pair_protocol.specs.Copying.{Copying, IsCopying}
use Rattle.pair_protocol.specs.Lawful.{Lawful}
use Rattle.pair_protocol.specs.Node.{Node}
use Rattle.pair_protocol.specs.NodeStands.{NodeStands}
use Rattle.pair_protocol.specs.World.{World, opening}
use Rattle.host_law.specs.Fleet.{Causal, Deed, Fleet, acts_of, booted, outside_acts, with_spares}
use Rattle.host_law.specs.Frame.{Act}
use Rattle.host_law.specs.Host.{HostStep}
use Rattle.host_law.specs.Laws.{IsCourse}
use Rattle.host_law.specs.Outside.{Outside, OutsideRun}

-- a run of a host, each of whose steps is made if its node stands
pub data RunIf {S : Type 0} (M : Machine S) (C : Copying S) (me : ℕ) : Node S → List Act → Type 0 where
  Rests : {x : Node S} → RunIf M C me x []
  Goes : {x : Node S} {act : Act} {acts : List Act} (y : NodeStands M x → Node S) →
      ((stands : NodeStands M x) → HostStep M C me x act (y stands)) →
      ((stands : NodeStands M x) → RunIf M C me (y stands) acts) → RunIf M C me x (act ∷ acts)

-- the same of all processes, of which the outside relies on nobody; where the hosts end is a result
pub record HappenedIf {S : Type 0} (M : Machine S) (C : Copying S) (first : Fleet S) (deeds : List Deed) (o : Outside)
    : Type 0 where
  pub hosts : (n : ℕ) (x : Node S) → slice_get first.hosts n ≡ Some x → RunIf M C n x (acts_of n deeds)
  pub others : (n : ℕ) → length first.hosts ≤ n → acts_of n deeds ≡ []
  pub outside : OutsideRun M first.outside (outside_acts deeds) o
  pub causal : Causal first.sent deeds

-- then all of them did make their steps, and worlds of the protocol followed them
pub record IsReliable {S : Type 0} (M : Machine S) (C : Copying S) (first : Fleet S) (w : World S) (deeds : List Deed)
    (o : Outside) : Type 0 where
  pub last : Fleet S
  pub course : IsCourse M C first w deeds last
  pub outside : last.outside ≡ o

-- the law for such runs
abbrev pub RelyingRunsAreFaithful : (S : Type 0) → Type 0
RelyingRunsAreFaithful S =
    (M : Machine S) (C : Copying S) → Lawful M → IsCopying M C → (reads : Reads) (spares : ℕ) (deeds : List Deed)
    (o : Outside) → HappenedIf M C (booted M reads spares) deeds o →
    IsReliable M C (booted M reads spares) (with_spares M spares (opening M reads)) deeds o
