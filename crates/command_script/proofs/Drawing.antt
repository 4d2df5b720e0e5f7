-- What is written is the picture of a run.
use Rattle.std.proofs.Common.{ℕ, List, Option}
use Rattle.std.specs.Io.KnownBytes.{Appends}
use Rattle.command_script.specs.Drawing.{DrawsRun}
use Rattle.command_script.specs.Telling.{IsToldOf}
use Rattle.disk_dcdd.specs.declared.sector.SectorWrite.{SectorWrite}
use Rattle.script_language.specs.declared.line.Line.{Line}
use Rattle.script_language.specs.declared.setup.ScriptSetup.{ScriptSetup}
use Rattle.sequence_diagram.specs.Svg.{IsPicture}
use Rattle.sequence_diagram.specs.declared.moment.Moment.{Moment}

pub draws_run : (setup : ScriptSetup) (sectors : List SectorWrite) (lines : List Line) (moments : List Moment) (picture : List ℕ)
    (old new : Option (List ℕ)) → IsToldOf setup sectors lines moments → IsPicture moments picture → Appends old new picture
    → DrawsRun setup sectors lines old new
draws_run setup sectors lines moments picture old new told is written =
    record { moments = moments; told = told; picture = picture; is = is; written = written }
