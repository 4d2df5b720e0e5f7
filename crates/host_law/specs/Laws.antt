-- The laws: whatever the processes of a pair do, the protocol follows them step by step.
use Rattle.std.specs.Prelude.{◌≡◌, ℕ, Some, List, [], ◌∷◌, slice_get}
use Rattle.disk_dcdd.specs.declared.address.SectorAddress.{SectorAddress}
use Rattle.guest_lockstep.specs.Machine.{Machine}
use Rattle.guest_lockstep.specs.declared.reads.Reads.{Reads}
use Rattle.pair_events.specs.declared.event.Event.{Event}
use Rattle.pair_protocol.specs.Copying.{Copying, IsCopying}
use Rattle.pair_protocol.specs.Faithful.{Faithful}
use Rattle.pair_protocol.specs.Grows.{Grows}
use Rattle.pair_protocol.specs.Lawful.{Lawful}
use Rattle.pair_protocol.specs.Node.{Node, Alone, Spare}
use Rattle.pair_protocol.specs.NodeStands.{NodeStands}
use Rattle.pair_protocol.specs.Reply.{Reply}
use Rattle.pair_protocol.specs.Row.{Row}
use Rattle.pair_protocol.specs.World.{World, opening, with_read}
use Rattle.host_law.specs.Fleet.{Deed, Fleet, FleetStep, Happened, booted, with_spares}
use Rattle.host_law.specs.Host.{HasTakenKeys}
use Rattle.host_law.specs.Kept.{IsKept, Kept}
use Rattle.host_law.specs.Shows.{Shows}

-- what a step of a process is in the protocol: nothing, an event's row, or the read that a host asked the disk for
pub data Follows {S : Type 0} (M : Machine S) (C : Copying S) (w : World S) : World S → Type 0 where
  ByNothing : Follows M C w w
  ByEvent : {new : World S} (e : Event) (r : Reply) → Row M C w e r new → Follows M C w new
  ByRead : (address : SectorAddress) → Follows M C w (with_read M w address)

-- a step of any process leads from a world that is shown to one that is shown, by at most one event
pub record Followed {S : Type 0} (M : Machine S) (C : Copying S) (w : World S) (after : Fleet S) : Type 0 where
  pub new : World S
  pub follows : Follows M C w new
  pub shows : Shows M C after new

abbrev pub StepsAreFollowed : (S : Type 0) → Type 0
StepsAreFollowed S =
    (M : Machine S) (C : Copying S) → Lawful M → IsCopying M C → (f after : Fleet S) (w : World S) (deed : Deed) →
    Shows M C f w → FleetStep M C f deed after → Followed M C w after

-- a fleet that has just begun shows the opening world with its spare hosts
abbrev pub BootIsShown : (S : Type 0) → Type 0
BootIsShown S =
    (M : Machine S) (C : Copying S) (reads : Reads) (spares : ℕ) →
    Shows M C (booted M reads spares) (with_spares M spares (opening M reads))

-- the worlds that a fleet shows, one after each step: each is faithful, and lets what was settled grow
pub data Course {S : Type 0} (M : Machine S) (C : Copying S) : Fleet S → World S → List Deed → Fleet S → World S → Type 0
  where
    Ends : {f : Fleet S} {w : World S} → Shows M C f w → Faithful M w → Course M C f w [] f w
    Goes : {f mid last : Fleet S} {w v new : World S} {deed : Deed} {deeds : List Deed} → Shows M C f w → Faithful M w →
        FleetStep M C f deed mid → Follows M C w v → Grows M w v → Course M C mid v deeds last new →
        Course M C f w (deed ∷ deeds) last new

-- so the devices at the outside have what the settled list gives, and at most one host is live
abbrev pub DevicesAreKept : (S : Type 0) → Type 0
DevicesAreKept S =
    (M : Machine S) (C : Copying S) (f : Fleet S) (w : World S) → Shows M C f w → (faithful : Faithful M w) →
    Kept M f faithful.list faithful.count faithful.trace faithful.reach

-- and each host's node is as its role asks: what a host that replays has yet to replay are the next entries of a
-- recorded run
abbrev pub HostsStand : (S : Type 0) → Type 0
HostsStand S =
    (M : Machine S) (C : Copying S) → Lawful M → IsCopying M C → (f : Fleet S) (w : World S) → Shows M C f w →
    (n : ℕ) (x : Node S) → slice_get f.hosts n ≡ Some x → (x.role ≡ Spare → ⊥) → NodeStands M x

-- so no host of a fleet strays: the machine of one that is alone has taken the keys of its list
abbrev pub NoHostStrays : (S : Type 0) → Type 0
NoHostStrays S =
    (M : Machine S) (C : Copying S) → Lawful M → IsCopying M C → (f : Fleet S) (w : World S) → Shows M C f w →
    (n : ℕ) (x : Node S) → slice_get f.hosts n ≡ Some x → x.role ≡ Alone → HasTakenKeys M x

-- the law: a run of each host and one of the outside, interleaved in any order, have such worlds
pub record IsCourse {S : Type 0} (M : Machine S) (C : Copying S) (first : Fleet S) (w : World S) (deeds : List Deed)
    (last : Fleet S) : Type 0 where
  pub new : World S
  pub course : Course M C first w deeds last new

-- all of it, from boot
abbrev pub RunsAreFaithful : (S : Type 0) → Type 0
RunsAreFaithful S =
    (M : Machine S) (C : Copying S) → Lawful M → IsCopying M C → (reads : Reads) (spares : ℕ) (deeds : List Deed)
    (last : Fleet S) → Happened M C (booted M reads spares) deeds last →
    IsCourse M C (booted M reads spares) (with_spares M spares (opening M reads)) deeds last

-- so at its end the devices at the outside have what one never-failing machine gives
abbrev pub RunsAreKept : (S : Type 0) → Type 0
RunsAreKept S =
    (M : Machine S) (C : Copying S) → Lawful M → IsCopying M C → (reads : Reads) (spares : ℕ) (deeds : List Deed)
    (last : Fleet S) → Happened M C (booted M reads spares) deeds last → IsKept M last
