-- Why a line is refused.
use Rattle.std.proofs.Common.{◌≡◌, ◌⊎◌, ℕ, Bool, true, List, Option, Some, None, ap, subst, ⊎_elim}
use Rattle.std.specs.Prelude.{is_some}
use Rattle.disk_dcdd.specs.declared.sector.SectorWrite.{SectorWrite}
use Rattle.i8080_words.specs.declared.refusal.Fault.{Fault}
use Rattle.i8080_words.specs.declared.refusal.Fault.TheVariants.{OutOfMemory, Unknown}
use Rattle.shared_disk.specs.Records.{AreOnDrives}
use Rattle.pair_shell.specs.Sessions.{CannotBoot, ComesLate, IsWrong, MayRefuse, NoneBoots, SaysNothing, is_setup}
use Rattle.shell_language.specs.declared.line.ShellLine.{ShellLine}
use Rattle.shell_language.specs.Openings.{CannotSet}
use Rattle.shell_language.specs.declared.opening.SessionSetup.{SessionSetup}

-- one at which no pair boots
pub none_boots : {X : Type 0} (opening : SessionSetup) (world : Option X) (line : ShellLine) → world ≡ None → CannotBoot opening
    → MayRefuse opening (is_some world) (Some line)
none_boots opening world line none cannot = NoneBoots (ap is_some none) cannot

-- a boot that was not short of memory was refused for a sector
pub cannot_boot : (fault : Fault) (drives : ℕ) (sectors : List SectorWrite) → (fault ≡ OutOfMemory → ⊥)
    → (fault ≡ OutOfMemory) ⊎ ((fault ≡ Unknown) × (AreOnDrives drives sectors → ⊥)) → AreOnDrives drives sectors → ⊥
cannot_boot fault drives sectors not why = ⊎_elim (λ full. absurd (not full)) (λ h. h.1) why

module _ (opening : SessionSetup) (has_booted : Bool) where
  -- a line of the setup, after the pair has booted
  pub comes_late : (line : ShellLine) → has_booted ≡ true → is_setup (Some line) ≡ true → MayRefuse opening has_booted (Some line)
  comes_late line booted is = ComesLate is booted

  -- one that the setup does not take
  pub is_wrong : (line : ShellLine) → CannotSet line opening → MayRefuse opening has_booted (Some line)
  is_wrong line cannot = IsWrong cannot

  -- what is said of a line is said of a text that says it
  pub why_said : (line : ShellLine) (said : Option ShellLine) → Some line ≡ said → MayRefuse opening has_booted (Some line)
      → MayRefuse opening has_booted said
  why_said line said is why = subst (λ s. MayRefuse opening has_booted s) is why

  -- a text that says no line
  pub why_nothing : (said : Option ShellLine) → None ≡ said → MayRefuse opening has_booted said
  why_nothing said is = subst (λ s. MayRefuse opening has_booted s) is SaysNothing
