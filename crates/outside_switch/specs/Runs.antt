-- What the calls of the switch are in the law of processes.
use Rattle.std.specs.Prelude.{◌≡◌, ◌<◌, ◌≤◌, ◌⊎◌, ℕ, List, [], ◌++◌, Some, Option}
use Rattle.guest_lockstep.specs.Machine.{Machine}
use Rattle.host_law.specs.Frame.{Came, Frame}
use Rattle.host_law.specs.Outside.{Outside, at_first}
use Rattle.shared_disk.specs.declared.store.Record.{Record}
use Rattle.outside_switch.specs.Held.{Held, at_boot}
use Rattle.outside_switch.specs.Ran.{OutsideRan}
use Rattle.outside_switch.specs.Shown.{Shows}
use Rattle.outside_switch.specs.Causes.{AreCutForCause}
use Rattle.outside_switch.specs.Goes as goes
use Rattle.outside_switch.specs.Goes.{Goes, Moves, passed_by}
use Rattle.outside_switch.specs.Lines.{AreApart, Pushed, number_at}
use Rattle.outside_switch.specs.Meets.{Seen}
use Rattle.outside_switch.specs.Passing.{Passed, shown_at, typed_at}
use Rattle.pair_protocol.specs.SharedDevices.{IsDisk}
use Rattle.pair_protocol.specs.World.{accepted_in, terminal_in}
use Rattle.outside_switch.specs.Says.{Brings}

-- the frames of the law that a move took in, those that it sent, and the frames that it pushed to hosts
abbrev pub read_by : {old new : Seen} → Moves old new → List Frame
read_by (goes.Acts meets) = meets.read
read_by (goes.Hears taken place body said takes is meets) = meets.read
read_by (goes.Drops place body takes) = []
read_by (goes.Closes place cause closes) = []
read_by (goes.Names begun place generation may begins names) = begins.meets.read

abbrev pub written_by : {old new : Seen} → Moves old new → List Frame
written_by (goes.Acts meets) = meets.written
written_by (goes.Hears taken place body said takes is meets) = meets.written
written_by (goes.Drops place body takes) = []
written_by (goes.Closes place cause closes) = []
written_by (goes.Names begun place generation may begins names) = begins.meets.written

abbrev pub pushed_by : {old new : Seen} → Moves old new → List Pushed
pushed_by (goes.Acts meets) = meets.pushed
pushed_by (goes.Hears taken place body said takes is meets) = meets.pushed
pushed_by (goes.Drops place body takes) = []
pushed_by (goes.Closes place cause closes) = []
pushed_by (goes.Names begun place generation may begins names) = begins.meets.pushed

-- what a host said brings what it means
abbrev pub MoveBrings : (drives : ℕ) (frames : List Frame) → {old new : Seen} → Moves old new → Type 0
MoveBrings drives frames (goes.Acts meets) = Unit {0}
MoveBrings drives frames (goes.Hears taken place body said takes is meets) =
    Brings drives taken.lines (Some (record { place = place; said = said })) frames
MoveBrings drives frames (goes.Drops place body takes) = Unit {0}
MoveBrings drives frames (goes.Closes place cause closes) = Unit {0}
MoveBrings drives frames (goes.Names begun place generation may begins names) = Unit {0}

-- what was shown is what terminals of the law have accepted, in order and each once, and what was typed was typed at them
abbrev pub HasPassed : List Passed → Outside → Outside → Type 0
HasPassed passed o p = (port : ℕ) →
    (accepted_in p.terminals port ≡ accepted_in o.terminals port ++ shown_at port passed)
    × ((terminal_in p.terminals port).typed ≡ (terminal_in o.terminals port).typed ++ typed_at port passed)

-- The devices came here by a run of the law's outside, which took in only what the host that was heard has said, and sent
-- what the hosts are told; and this passed between its terminals and the user.
pub record MoveRan {S : Type 0} (M : Machine S) (drives : ℕ) (frames : List Frame) (o : Outside)
    (read written : List Frame) (passed : List Passed) (new : Held) : Type 0 where
  pub ran : OutsideRan M drives o read written new
  pub came : Came read frames
  pub passes : HasPassed passed o ran.last

-- each move is a run of whatever outside the devices show that counts all hosts which are there after it
abbrev pub SwitchRuns : (S : Type 0) → Type 0
SwitchRuns S = (M : Machine S) (drives : ℕ) (frames : List Frame) (old new : Seen) (move : Moves old new) (o : Outside) →
    Shows M drives old.devices o → new.devices.hosts ≤ o.hosts → MoveBrings drives frames move →
    MoveRan M drives frames o (read_by move) (written_by move) (passed_by move) new.devices

-- a switch begins with nothing, over a disk on which nothing is written
abbrev pub SwitchBegins : (S : Type 0) → Type 0
SwitchBegins S = (M : Machine S) (drives : ℕ) (records : List Record) (may_fail : Option ℕ) (hosts : ℕ) →
    IsDisk M drives records [] → 2 ≤ hosts →
    Shows M drives (record (at_boot records may_fail) { hosts = 2 }) (at_first hosts)

-- hosts come, and none goes
abbrev pub HostsStay : Type 0
HostsStay = (old new : Seen) → Moves old new → old.devices.hosts ≤ new.devices.hosts

-- ---- causes

abbrev pub CutsHaveCauses : Type 0
CutsHaveCauses = (first last : Seen) → Goes first last → AreCutForCause first.lines → AreCutForCause last.lines

-- ---- numbers

abbrev pub StayApart : Type 0
StayApart = (first last : Seen) → Goes first last → AreApart first.lines → AreApart last.lines

-- a place keeps its number
abbrev pub NumbersStay : Type 0
NumbersStay = (old new : Seen) → Moves old new → (place number : ℕ) → number_at old.lines place ≡ Some number →
    number_at new.lines place ≡ Some number

-- and one that it is given is that of a host that is there
abbrev pub NumbersCount : Type 0
NumbersCount = (old new : Seen) → Moves old new → (place number : ℕ) → number_at new.lines place ≡ Some number →
    (number_at old.lines place ≡ Some number) ⊎ (number < new.devices.hosts)
