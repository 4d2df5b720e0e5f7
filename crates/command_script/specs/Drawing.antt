-- What the command `picture` writes, by how it ends.
use Rattle.std.specs.Prelude.{ℕ, Option, List, Result, MatchResult}
use Rattle.std.specs.Io.KnownBytes.{Appends, Keeps}
use Rattle.command_io.specs.declared.failure.Failure.{Failure}
use Rattle.command_io.specs.declared.failure.Failure.TheVariants.{OutOfMemory, InputOrOutput}
use Rattle.command_script.specs.Telling.{IsToldOf}
use Rattle.disk_dcdd.specs.declared.sector.SectorWrite.{SectorWrite}
use Rattle.script_language.specs.declared.line.Line.{Line}
use Rattle.script_language.specs.declared.setup.ScriptSetup.{ScriptSetup}
use Rattle.sequence_diagram.specs.Svg.{IsPicture}
use Rattle.sequence_diagram.specs.declared.moment.Moment.{Moment}

-- one picture is written, whole: that of what is told of a run of a script with this setup, these sectors at boot and these lines
pub record DrawsRun (setup : ScriptSetup) (sectors : List SectorWrite) (lines : List Line) (old new : Option (List ℕ)) : Type 0 where
  pub moments : List Moment
  pub told : IsToldOf setup sectors lines moments
  pub picture : List ℕ
  pub is : IsPicture moments picture
  pub written : Appends old new picture

-- without memory nothing is written; if input or output fails, nothing is claimed
abbrev pub DrawsBut : Failure → Option (List ℕ) → Option (List ℕ) → Type 0
DrawsBut OutOfMemory old new = Keeps old new
DrawsBut InputOrOutput old new = Unit {0}
DrawsBut _ old new = ⊥

abbrev pub Draws : ScriptSetup → List SectorWrite → List Line → Result (Unit {0}) Failure → Option (List ℕ) → Option (List ℕ)
    → Type 0
Draws setup sectors lines result old new =
    MatchResult result (λ _. DrawsRun setup sectors lines old new) (λ failure. DrawsBut failure old new)
