-- What one call does: calls of the devices, and frames that are pushed.
use Rattle.std.specs.Prelude.{◌≡◌, ℕ, List, Option, None, Some}
use Rattle.std.specs.List.{AllByRecursion}
use Rattle.host_law.specs.Frame.{Came, Frame}
use Rattle.outside_switch.specs.Held.{Held}
use Rattle.host_frames.specs.Frames.{Said}
use Rattle.outside_switch.specs.Calls.{Called}
use Rattle.outside_switch.specs.Lines.{LinesGo, Pushed}
use Rattle.outside_switch.specs.Passing.{Passed, passed_by_calls}
use Rattle.outside_switch.specs.Says.{Brings, IsRight, Saying}
use Rattle.outside_switch.specs.declared.line.HostLine.{HostLine}
use Rattle.outside_switch.specs.declared.switch.Switch.{Switch}

-- the devices, and the lines to the hosts
pub record Seen : Type 0 where
  pub devices : Held
  pub lines : List HostLine

abbrev pub seen : {D : Type 0} → Switch D → Seen
seen switch = record { devices = switch.devices; lines = switch.lines.items }

-- What a host said was met, or nobody said anything. The devices were called, and took only frames that what was said brings;
-- each frame that was pushed is what was said, passed on, or means only what the devices sent.
pub record Meets (heard : Option Saying) (old new : Seen) : Type 0 where
  pub read : List Frame
  pub written : List Frame
  pub pushed : List Pushed
  pub called : Called old.devices read written new.devices
  pub came : (drives : ℕ) (frames : List Frame) → Brings drives old.lines heard frames → Came read frames
  pub right : AllByRecursion (IsRight old.lines heard written) pushed
  pub lines : LinesGo pushed old.lines new.lines

-- the same, by which this passed between the devices and the user
pub record MeetsWith (passed : List Passed) (heard : Option Saying) (old new : Seen) : Type 0 where
  pub meets : Meets heard old new
  pub passes : passed_by_calls meets.called ≡ passed

-- what the host at a place said was met
abbrev pub MeetsSaid : {D : Type 0} → List Passed → ℕ → Said → Switch D → Switch D → Type 0
MeetsSaid passed place said old new = MeetsWith passed (Some (record { place = place; said = said })) (seen old) (seen new)
