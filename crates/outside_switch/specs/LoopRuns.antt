-- What a run of the outside comes to, and why it ends.
use Rattle.std.specs.Prelude.{◌≡◌, ℕ, ◌-◌, Bool, ◌||◌, ◌&&◌, is_none, nat_le, nat_lt, true, false, List, [], ◌∷◌, ◌++◌, Option, None, Some, slice_get, slice_index}
use Rattle.std.specs.List.{list_all}
use Rattle.rtrb.specs.Ring.{received}
use Rattle.host_frames.specs.declared.frame.Report.{Report}
use Rattle.outside_switch.specs.Goes.{GoesWith}
use Rattle.outside_switch.specs.Lines.{reports_spare}
use Rattle.outside_switch.specs.Meets.{seen}
use Rattle.outside_switch.specs.Passing.{Passed, shown_at, typed_at}
use Rattle.outside_switch.specs.declared.heard.BodyOutcome.{BodyOutcome}
use Rattle.outside_switch.specs.declared.heard.BodyOutcome.TheVariants.{Shown}
use Rattle.outside_switch.specs.declared.line.HostLine.{HostLine}
use Rattle.console_terminal.specs.Lines.{HasRoom, HasShown, IsSameStart}
use Rattle.console_terminal.specs.declared.screen.Screen.{Screen}
use Rattle.outside_switch.specs.Judging.{AreCounted, FloodersAreCut}
use Rattle.outside_switch.specs.Ports.{BeginsAt, IsOver, Types}
use Rattle.outside_switch.specs.declared.live.Live.{Live}
use Rattle.outside_switch.specs.declared.session.HostsEnd.{HostsEnd}
use Rattle.outside_switch.specs.declared.session.HostsEnd.TheVariants.{NoHosts, Settled, Silent, Stopped, UserQuit}
use Rattle.outside_switch.specs.declared.session.Quit.{Quit}
use Rattle.outside_switch.specs.declared.session.Session.{Session}

-- a screen has shown what terminals accepted meanwhile too, and nothing else
pub record Shows (passed : List Passed) (old new : Screen) : Type 0 where
  pub same : IsSameStart old.ring new.ring
  pub shown : (at : ℕ) (before : List ℕ) → HasShown old at before → HasShown new at (before ++ shown_at at passed)

-- The switch went on, and what passed meanwhile between its devices and the user was typed at both ports and shown. A host that has
-- sent too much was cut off; of none was counted what has not come.
pub record Went {D S : Type 0} (old new : Session D S) : Type 0 where
  pub passed : List Passed
  pub goes : GoesWith passed (seen old.switch) (seen new.switch)
  pub first : Types (typed_at 0 passed) old.first new.first
  pub second : Types (typed_at 1 passed) old.second new.second
  pub screen : Shows passed old.screen new.screen
  pub cut : FloodersAreCut old → FloodersAreCut new
  pub counted : AreCounted old → AreCounted new

-- this was shown, and all else is as it was
pub record IsTold {D S : Type 0} (passed : List Passed) (old new : Session D S) : Type 0 where
  pub switch : new.switch ≡ old.switch
  pub first : new.first ≡ old.first
  pub second : new.second ≡ old.second
  pub screen : Shows passed old.screen new.screen
  pub flood : new.flood ≡ old.flood

-- the screen has room for a byte that is to be shown
abbrev pub MayShow : Screen → BodyOutcome → Type 0
MayShow screen (Shown port byte) = HasRoom screen.ring
MayShow screen _ = Unit {0}

-- This host is live: it was before, in this generation; or it is sent all keys that it has not taken.
pub data SeesLive {D S : Type 0} (live : Live) (old new : Session D S) : Type 0 where
  Before : old.moments.live ≡ Some (live.place, live.report.generation) → new ≡ old → SeesLive live old new
  Anew : new.moments.live ≡ Some (live.place, live.report.generation) →
      BeginsAt (slice_index live.report.taken 0) new.first → BeginsAt (slice_index live.report.taken 1) new.second →
      SeesLive live old new

-- a host is cut off; or it has no number, or says that it is a spare: then it has no machine, and nobody is left to give it one
abbrev pub has_no_machine : HostLine → Bool
has_no_machine line = is_none line.to || (is_none line.number || reports_spare line.report)

abbrev pub have_no_machine : List HostLine → Bool
have_no_machine lines = list_all has_no_machine lines

-- A host is out: it is cut off, or has no number; or it has said that it is a spare since a tick after that one when nobody was live
-- any more.
abbrev pub is_after : ℕ → Option ℕ → Bool
is_after tick None = false
is_after tick (Some left) = nat_lt left tick

abbrev pub says_spare_after : Option ℕ → Option Report → Bool
says_spare_after left None = false
says_spare_after left (Some report) = is_none report.role && is_after report.tick left

abbrev pub is_out : Option ℕ → HostLine → Bool
is_out left line = is_none line.to || (is_none line.number || says_spare_after left line.report)

-- the live host, and what it reported last
pub record IsLive (lines : List HostLine) (live : Live) : Type 0 where
  pub line : HostLine
  pub at : slice_get lines live.place ≡ Some line
  pub is_there : is_none line.to ≡ false
  pub reported : line.report ≡ Some live.report

-- its guest waits for a key, and nothing is on its way to a device
pub record HasIdleGuest (lines : List HostLine) : Type 0 where
  pub live : Live
  pub is : IsLive lines live
  pub idle : live.report.is_idle ≡ true

-- by its last turn nothing has moved for as long as it may be so: no key was typed, nothing was shown and written, and none read on another track
abbrev pub is_silent : {D S : Type 0} → Session D S → Bool
is_silent s = nat_le s.silence (s.moments.turned - s.moments.moved)

-- The user has asked for it; no keys are left at either port, and the guest waits for one, or has been silent for long; no host is left that
-- has the machine; or the steward has its own reason.
abbrev pub IsWhy : {D S : Type 0} → HostsEnd → Session D S → Type 0
IsWhy UserQuit s = (before : List Quit) × (quit : Quit) × (received s.quits ≡ before ++ quit ∷ [])
IsWhy Settled s = IsOver s.first × IsOver s.second × HasIdleGuest s.switch.lines.items
IsWhy Silent s = IsOver s.first × IsOver s.second × (is_silent s ≡ true)
IsWhy NoHosts s = have_no_machine s.switch.lines.items ≡ true
IsWhy Stopped s = Unit {0}

-- it went on until there was a reason to end, and after that
pub record Ended {D S : Type 0} (end : HostsEnd) (old new : Session D S) : Type 0 where
  pub last : Session D S
  pub went : Went old last
  pub why : IsWhy end last
  pub stopped : Went last new
