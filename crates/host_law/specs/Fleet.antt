-- All processes of a pair: what they are at a moment, and what happened in what order.
use Rattle.std.specs.Prelude.{◌≡◌, ℕ, zero, suc, ◌≤◌, ◌==◌, if◌then◌else◌, Some, List, [], ◌∷◌, ◌++◌, length, slice_get, slice_set}
use Rattle.guest_lockstep.specs.Machine.{Machine}
use Rattle.guest_lockstep.specs.declared.reads.Reads.{Reads}
use Rattle.pair_protocol.specs.Copying.{Copying}
use Rattle.pair_protocol.specs.Node.{Node}
use Rattle.pair_protocol.specs.World.{World, opening, with_host}
use Rattle.host_law.specs.Frame.{Frame, Act, Came}
use Rattle.host_law.specs.Host.{HostStep, HostRun}
use Rattle.host_law.specs.Outside.{Outside, OutsideStep, OutsideRun, at_first}

-- the nodes of the hosts, the outside, and every frame that anybody ever sent
pub record Fleet (S : Type 0) : Type 0 where
  pub hosts : List (Node S)
  pub outside : Outside
  pub sent : List Frame

-- a step of a host, or of the outside
pub data Deed : Type 0 where
  OfHost : (n : ℕ) (act : Act) → Deed
  OfOutside : (act : Act) → Deed

-- as the others see it
abbrev pub act_of : Deed → Act
act_of (OfHost n act) = act
act_of (OfOutside act) = act

-- ---- one step: a process takes in only what somebody sent before; frames are lost, repeated and overtaken

pub data FleetStep {S : Type 0} (M : Machine S) (C : Copying S) (f : Fleet S) : Deed → Fleet S → Type 0 where
  HostActs : (n : ℕ) (x y : Node S) (act : Act) → slice_get f.hosts n ≡ Some x → Came act.takes f.sent →
      HostStep M C n x act y →
      FleetStep M C f (OfHost n act)
      (record { hosts = slice_set f.hosts n y; outside = f.outside; sent = f.sent ++ act.sends })
  OutsideActs : (o : Outside) (act : Act) → Came act.takes f.sent → OutsideStep M f.outside act o →
      FleetStep M C f (OfOutside act) (record { hosts = f.hosts; outside = o; sent = f.sent ++ act.sends })

-- ---- runs of the processes, interleaved in any order

-- what one host did, and what the outside did
abbrev pub acts_of : ℕ → List Deed → List Act
acts_of n [] = []
acts_of n (OfHost m act ∷ deeds) = if n == m then act ∷ acts_of n deeds else acts_of n deeds
acts_of n (OfOutside act ∷ deeds) = acts_of n deeds

abbrev pub outside_acts : List Deed → List Act
outside_acts [] = []
outside_acts (OfHost m act ∷ deeds) = outside_acts deeds
outside_acts (OfOutside act ∷ deeds) = act ∷ outside_acts deeds

-- whatever a process took in was sent before
abbrev pub Causal : List Frame → List Deed → Type 0
Causal sent [] = Unit {0}
Causal sent (deed ∷ deeds) = Came (act_of deed).takes sent × Causal (sent ++ (act_of deed).sends) deeds

-- all frames that were sent
abbrev pub sent_by : List Deed → List Frame
sent_by [] = []
sent_by (deed ∷ deeds) = (act_of deed).sends ++ sent_by deeds

-- each host made a run of its own, the outside made one, and what they took in was sent before
pub record Happened {S : Type 0} (M : Machine S) (C : Copying S) (first : Fleet S) (deeds : List Deed) (last : Fleet S)
    : Type 0 where
  pub hosts : (n : ℕ) (x : Node S) → slice_get first.hosts n ≡ Some x →
      (y : Node S) × (slice_get last.hosts n ≡ Some y) × HostRun M C n x (acts_of n deeds) y
  pub many : length last.hosts ≡ length first.hosts
  pub others : (n : ℕ) → length first.hosts ≤ n → acts_of n deeds ≡ []
  pub outside : OutsideRun M first.outside (outside_acts deeds) last.outside
  pub causal : Causal first.sent deeds
  pub sent : last.sent ≡ first.sent ++ sent_by deeds

-- ---- how a fleet begins

-- a world with this many spare hosts more
abbrev pub with_spares : {S : Type 0} → Machine S → ℕ → World S → World S
with_spares M zero w = w
with_spares M (suc spares) w = with_spares M spares (with_host M w)

-- hosts 0 and 1 have booted as primary and backup, and the others are spare
abbrev pub booted : {S : Type 0} → Machine S → Reads → ℕ → Fleet S
booted M reads spares =
    let hosts = (with_spares M spares (opening M reads)).nodes in
    record { hosts = hosts; outside = at_first (length hosts); sent = [] }
