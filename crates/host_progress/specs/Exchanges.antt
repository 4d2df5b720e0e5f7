-- Steps of processes, one after another, for which no frame of before is needed: what a process takes was sent to it since, by
-- the stream between a host and the outside. What such steps lead to, whose they are, and at most how many.
use Rattle.std.specs.Prelude.{◌≡◌, ℕ, ◌≤◌, ◌==◌, if◌then◌else◌, List, [], ◌∷◌, ◌++◌, length}
use Rattle.guest_lockstep.specs.Machine.{Machine}
use Rattle.pair_protocol.specs.Copying.{Copying}
use Rattle.pair_protocol.specs.World.{World}
use Rattle.host_law.specs.Fleet.{Deed, Fleet, FleetStep, Happened, OfHost, OfOutside, act_of}
use Rattle.host_law.specs.Frame.{Act, Came, Frame, quiet}
use Rattle.host_law.specs.Shows.{Shows}

-- what has gone by the stream of each host
abbrev pub Streams : Type 0
Streams = ℕ → List Frame

-- nothing has, and these frames more have by one of them
abbrev pub none_sent : Streams
none_sent n = []

abbrev pub with_sent : ℕ → List Frame → Streams → Streams
with_sent n frames streams k = if k == n then streams k ++ frames else streams k

-- from one fleet to another, when these frames have gone from each host to the outside, and those from the outside to each host:
-- a host takes what came by its own stream, and the outside what came by one of them, and answers by one of them
pub data Exchanged {S : Type 0} (M : Machine S) (C : Copying S) : Fleet S → (up down : Streams) → List Deed → Fleet S → Type 0
  where
    Ends : {f : Fleet S} {up down : Streams} → Exchanged M C f up down [] f
    ByHost : {f mid last : Fleet S} {up down : Streams} {deeds : List Deed} (n : ℕ) (act : Act) →
        FleetStep M C f (OfHost n act) mid → Came act.takes (down n) →
        Exchanged M C mid (with_sent n act.sends up) down deeds last → Exchanged M C f up down (OfHost n act ∷ deeds) last
    ByOutside : {f mid last : Fleet S} {up down : Streams} {deeds : List Deed} (from to : ℕ) (act : Act) →
        FleetStep M C f (OfOutside act) mid → Came act.takes (up from) →
        Exchanged M C mid up (with_sent to act.sends down) deeds last → Exchanged M C f up down (OfOutside act ∷ deeds) last

-- each step is of one of these hosts, or of the outside, which takes or sends a frame: nobody types
abbrev pub IsOf : (ℕ → Type 0) → Deed → Type 0
IsOf Who (OfHost n act) = Who n
IsOf Who (OfOutside act) = act ≡ quiet → ⊥

abbrev pub AreOf : (ℕ → Type 0) → List Deed → Type 0
AreOf Who [] = Unit {0}
AreOf Who (deed ∷ deeds) = IsOf Who deed × AreOf Who deeds

-- from this fleet at most so many steps of these hosts and of the outside lead to a fleet that shows a world of which `End`
-- holds, although nothing that was sent before comes
pub record HostsReach {S : Type 0} (M : Machine S) (C : Copying S) (f : Fleet S) (Who : ℕ → Type 0) (most : ℕ)
    (End : World S → Type 0) : Type 0 where
  pub deeds : List Deed
  pub last : Fleet S
  pub done : Exchanged M C f none_sent none_sent deeds last
  pub who : AreOf Who deeds
  pub few : length deeds ≤ most
  pub new : World S
  pub shows : Shows M C last new
  pub end : End new

-- the first of such steps takes no frame: it waits for nobody
abbrev pub FirstWaitsForNobody : (S : Type 0) → Type 0
FirstWaitsForNobody S =
    (M : Machine S) (C : Copying S) (f last : Fleet S) (deed : Deed) (deeds : List Deed) →
    Exchanged M C f none_sent none_sent (deed ∷ deeds) last → (act_of deed).takes ≡ []

-- and all of them are runs of the processes, interleaved: each host makes one of its own, and the outside one
abbrev pub ListsAreRuns : (S : Type 0) → Type 0
ListsAreRuns S =
    (M : Machine S) (C : Copying S) (f last : Fleet S) (up down : Streams) (deeds : List Deed) →
    Exchanged M C f up down deeds last → Happened M C f deeds last
