-- What is told of a run of a script: its events with their answers, one after another.
use Rattle.std.specs.Prelude.{◌≡◌, ℕ, ◌+◌, ◌≤◌, List, [], ◌∷◌, ◌++◌}
use Rattle.altair_laws.specs.Copies.{image_copy}
use Rattle.command_script.specs.Answering.{Booted}
use Rattle.command_script.specs.Running.{HasFailed}
use Rattle.disk_dcdd.specs.declared.sector.SectorWrite.{SectorWrite}
use Rattle.ft_world.specs.Applies.{Shows, failures_told}
use Rattle.ft_world.specs.Running.{Running}
use Rattle.ft_world.specs.Standing.{Course, machine_of}
use Rattle.ft_world.specs.Words.{answer_of}
use Rattle.guest_board.specs.Guest.{altair}
use Rattle.guest_lockstep.specs.Machine.{Machine}
use Rattle.guest_parts.specs.Guest.{Guest}
use Rattle.pair_protocol.specs.Copying.{Copying}
use Rattle.pair_protocol.specs.Row.{Row}
use Rattle.pair_protocol.specs.World.{World}
use Rattle.script_language.specs.declared.line.Line.{Line}
use Rattle.script_language.specs.declared.line.Line.TheVariants as line
use Rattle.script_language.specs.declared.line.Query.{Query}
use Rattle.script_language.specs.declared.setup.ScriptSetup.{ScriptSetup}
use Rattle.sequence_diagram.specs.declared.moment.Moment.{Moment}
use Rattle.shared_disk.specs.Failing.{Disk, failures_of, records_in}

-- how many of the answers that are told say that the device failed
abbrev pub failures_in_all : List Moment → ℕ
failures_in_all [] = 0
failures_in_all (moment ∷ moments) = failures_told moment.event moment.answer + failures_in_all moments

-- each event of the lines is told with its answer, by its row, in the world that those before it have left; a query is not told
pub data Told {S : Type 0} (M : Machine S) (C : Copying S) : World S → List Line → List Moment → World S → Type 0 where
  NoneTold : {w : World S} → Told M C w [] [] w
  EventTold : {w mid new : World S} {moment : Moment} {lines : List Line} {moments : List Moment}
      → Row M C w moment.event (answer_of moment.answer) mid → Told M C mid lines moments new
      → Told M C w (line.Event moment.event ∷ lines) (moment ∷ moments) new
  QueryPassed : {w new : World S} {q : Query} {lines : List Line} {moments : List Moment}
      → Told M C w lines moments new → Told M C w (line.Query q ∷ lines) moments new

-- these moments are what is told of a run of a script with this setup, these sectors at boot and these lines, over a device
-- that fails no more often than the setup says
pub record IsToldOf (setup : ScriptSetup) (sectors : List SectorWrite) (lines : List Line) (moments : List Moment) : Type 0 where
  pub booted : Booted setup sectors
  pub after : World Guest
  pub told : Told (altair setup.guest booted.start) (image_copy setup.guest.drives) booted.world lines moments after
  pub no_more : failures_in_all moments ≤ failures_of setup.failing_access

-- the events of the lines have happened in a running pair, and were told; their answers tell each failure of the device
pub record HaveTold {B H S : Type 0} (state : B → S) (copied : B → Guest) (M : Machine S) (c : Course S)
    (lines : List Line) (moments : List Moment) (before v : Running B H Disk) : Type 0 where
  pub after : World S
  pub counted : HasFailed before (failures_in_all moments) v
  pub told : Told (machine_of M c) c.copying c.world lines moments after
  pub shows : Shows state copied M records_in v (record c { world = after })

-- they were told after others
pub record TellsAfter {B H S : Type 0} (state : B → S) (copied : B → Guest) (M : Machine S) (old : Running B H Disk)
    (lines : List Line) (before now : List Moment) (v : Running B H Disk) : Type 0 where
  pub moments : List Moment
  pub are : now ≡ before ++ moments
  pub told : (c : Course S) → Shows state copied M records_in old c → HaveTold state copied M c lines moments old v
