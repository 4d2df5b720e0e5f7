-- Which hosts have the machine, by what becomes of them, and the lines that tell of it.
use Rattle.std.specs.Prelude.{ℕ, ◌==◌, Bool, true, false, not, if◌then◌else◌, Option, Some, None}
use Rattle.outside_switch.specs.declared.steward.HostEvent.{HostEvent}
use Rattle.outside_switch.specs.declared.steward.HostEvent.TheVariants.{Alone, Became, Failed, Flooded, Gone, Joins, Unwritten, Won}
use Rattle.command_console.specs.declared.line.PairLine.{PairLine}
use Rattle.command_console.specs.declared.story.Story.{Story}
use Rattle.pair_events.specs.declared.reply.Role.TheVariants.{Backup, Primary}

-- it is the host at this place
abbrev pub is_at : ℕ → Option ℕ → Bool
is_at place None = false
is_at place (Some other) = other == place

-- a new generation has a backup only once that one reports
abbrev pub began : ℕ → Story → Story
began generation s = if generation == s.generation then s else record s { generation = generation; backup = None }

abbrev pub story_after : ℕ → HostEvent → Story → Story
story_after place (Became generation (Some Primary)) s = record (began generation s) { primary = Some place }
story_after place (Became generation (Some Backup)) s = record (began generation s) { backup = Some place; joining = None }
story_after place (Won generation) s =
    record s { primary = Some place; backup = None; joining = None; is_alone = false }
story_after place (Joins generation) s = record s { joining = Some place; is_alone = false }
story_after place Alone s = record s { is_alone = true }
story_after place Gone s = if is_at place s.joining then record s { joining = None } else s
story_after place Unwritten s = record s { is_unwritten = true }
story_after place event s = s

abbrev begins_with : ℕ → Option ℕ → Option ℕ → Option PairLine
begins_with generation (Some primary) (Some backup) = Some (PairLine.Begins generation primary backup)
begins_with generation _ _ = None

-- two hosts have the machine
abbrev pub begins : Story → Option PairLine
begins s = begins_with s.generation s.primary s.backup

-- the line that tells of it
abbrev pub line_of : ℕ → HostEvent → Story → Option PairLine
line_of place (Became generation (Some Primary)) s = begins (story_after place (Became generation (Some Primary)) s)
line_of place (Became generation (Some Backup)) s = begins (story_after place (Became generation (Some Backup)) s)
line_of place (Won generation) s = Some (PairLine.Won place)
line_of place (Joins generation) s = if is_at place s.joining then None else Some (PairLine.Copies place)
line_of place Failed s = Some (PairLine.CutOff place)
line_of place Flooded s = Some (PairLine.Flooded place)
line_of place Gone s = if is_at place s.joining then Some (PairLine.Lost place) else None
line_of place Alone s = if s.is_alone then None else Some (PairLine.Alone place)
line_of place Unwritten s = if s.is_unwritten then None else Some (PairLine.Unwritten place)
line_of place event s = None

abbrev pub asks : Option ℕ → ℕ → Option PairLine
asks None place = None
asks (Some failed) place = Some (PairLine.Asks failed place)

-- and the one before it: who has failed if a host has won
abbrev pub first_line : ℕ → HostEvent → Story → Option PairLine
first_line place (Won generation) s = if is_at place s.primary then asks s.backup place else asks s.primary place
first_line place event s = None
