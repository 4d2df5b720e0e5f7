-- What a run of a script prints, by how it ends.
use Rattle.std.specs.Prelude.{ℕ, ◌≤◌, Option, Some, List, Result, MatchResult, take}
use Rattle.std.specs.Io.KnownBytes.{Keeps}
use Rattle.altair_laws.specs.Copies.{image_copy}
use Rattle.disk_dcdd.specs.declared.sector.SectorWrite.{SectorWrite}
use Rattle.guest_parts.specs.Guest.{Guest}
use Rattle.guest_board.specs.Guest.{altair}
use Rattle.guest_lockstep.specs.Machine.{Machine}
use Rattle.pair_protocol.specs.Copying.{Copying}
use Rattle.pair_protocol.specs.World.{World}
use Rattle.command_script.specs.Answering.{AnswersAll, Booted, Happen}
use Rattle.command_io.specs.Reports.{AddsLine}
use Rattle.altair_pair.specs.Alike.{IsSameAtSettled}
use Rattle.altair_pair.specs.Verdicts.{words_of}
use Rattle.command_io.specs.declared.failure.Failure.{Failure}
use Rattle.command_io.specs.declared.failure.Failure.TheVariants.{OutOfMemory, InputOrOutput, Differs}
use Rattle.command_script.specs.declared.order.ScriptTask.{ScriptTask}
use Rattle.command_script.specs.declared.order.ScriptTask.TheVariants.{Script, Check}
use Rattle.altair_pair.specs.declared.verdict.Verdict.{Verdict}
use Rattle.altair_pair.specs.declared.verdict.Verdict.TheVariants as verdict
use Rattle.script_language.specs.declared.line.Line.{Line}
use Rattle.shared_disk.specs.Failing.{failures_of}
use Rattle.script_language.specs.declared.setup.ScriptSetup.{ScriptSetup}

-- a verdict is printed; if it is that the pair differs, the run ends with that too
abbrev pub PrintsBut : (Verdict → Type 0) → Failure → Option (List ℕ) → Option (List ℕ) → Type 0
PrintsBut holds Differs old new = holds verdict.Differs × AddsLine (Some (words_of verdict.Differs)) old new
PrintsBut holds OutOfMemory old new = Keeps old new
PrintsBut holds InputOrOutput old new = Unit {0}
PrintsBut holds _ old new = ⊥

abbrev pub PrintsVerdict : (Verdict → Type 0) → Result (Unit {0}) Failure → Option (List ℕ) → Option (List ℕ) → Type 0
PrintsVerdict holds result old new = MatchResult result
    (λ _. (count : ℕ) × holds (verdict.Same count) × AddsLine (Some (words_of (verdict.Same count))) old new)
    (λ failure. PrintsBut holds failure old new)

-- each line is answered, in order; or only the first ones are, if memory is refused for the next
abbrev pub AnswersBut : {S : Type 0} → Machine S → Copying S → World S → List Line → ℕ → Failure → Option (List ℕ)
    → Option (List ℕ) → Type 0
AnswersBut M C w lines most OutOfMemory old new = (some : ℕ) × AnswersAll M C w (take some lines) most old new
AnswersBut M C w lines most InputOrOutput old new = Unit {0}
AnswersBut M C w lines most _ old new = ⊥

abbrev pub AnswersLines : {S : Type 0} → Machine S → Copying S → World S → List Line → ℕ → Result (Unit {0}) Failure
    → Option (List ℕ) → Option (List ℕ) → Type 0
AnswersLines M C w lines most result old new = MatchResult result (λ _. AnswersAll M C w lines most old new)
    (λ failure. AnswersBut M C w lines most failure old new)

-- a line that is not answered hands nothing in
abbrev pub HandsNone : Failure → Option (List ℕ) → Option (List ℕ) → Type 0
HandsNone OutOfMemory old new = Keeps old new
HandsNone InputOrOutput old new = Unit {0}
HandsNone _ old new = ⊥

-- a verdict on a world that all events of the lines have led to, over a device that failed no more often than the setup
-- says: the pair has done the same, up to what is settled there
pub record IsSameAfter (setup : ScriptSetup) (sectors : List SectorWrite) (booted : Booted setup sectors) (lines : List Line)
    (verdict : Verdict) : Type 0 where
  pub after : World Guest
  pub failures : ℕ
  pub no_more : failures ≤ failures_of setup.failing_access
  pub happen : Happen (altair setup.guest booted.start) (image_copy setup.guest.drives) booted.world lines failures after
  pub same : IsSameAtSettled (altair setup.guest booted.start) after verdict

-- a run of a script with this setup, these sectors at boot and these lines
abbrev pub Prints : ScriptTask → ScriptSetup → List SectorWrite → List Line → Result (Unit {0}) Failure → Option (List ℕ)
    → Option (List ℕ) → Type 0
Prints Script setup sectors lines result old new = (b : Booted setup sectors)
    × AnswersLines (altair setup.guest b.start) (image_copy setup.guest.drives) b.world lines
    (failures_of setup.failing_access) result old new
Prints Check setup sectors lines result old new =
    (b : Booted setup sectors) × PrintsVerdict (IsSameAfter setup sectors b lines) result old new
