-- What a command reads: the images of some drives, and then a script.
use Rattle.std.specs.Prelude.{◌≡◌, ℕ, ◌+◌, min, max, Option, List, ◌++◌, map, Result, Ok, Err}
use Rattle.std.specs.List.{fold}
use Rattle.command_io.specs.Scripts.{BytesSay, Meaning}
use Rattle.command_io.specs.declared.failure.Failure.{Failure}
use Rattle.command_io.specs.declared.failure.Failure.TheVariants.{BadScript, OutOfMemory, InputOrOutput}
use Rattle.command_io.specs.Images.{ComeFirst}
use Rattle.command_io.specs.declared.input.ScriptInput.{ScriptInput}
use Rattle.command_io.specs.declared.input.Language.{Language}
use Rattle.command_io.specs.declared.input.Language.TheVariants.{Any, Threads}
use Rattle.disk_dcdd.specs.declared.sector.SectorWrite.{SectorWrite}
use Rattle.script_language.specs.Booting.{Boot, boot_of}
use Rattle.script_language.specs.Live.{live_script_of}
use Rattle.script_language.specs.Meaning.{script_of}
use Rattle.script_language.specs.Scripts.{boot_write}

-- what a text says as any script, or as one of a pair on threads
abbrev pub meaning_of : Language → Meaning
meaning_of Any = script_of
meaning_of Threads = live_script_of

-- how many drives are attached, if this one is too; there are four at most
abbrev pub with_drive : ℕ → ℕ → ℕ
with_drive count drive = max count (min drive 3 + 1)

-- the same for each of these drives
abbrev pub drives_with : List ℕ → ℕ → ℕ
drives_with drives count = fold with_drive count drives

abbrev pub with_drives : List ℕ → Boot → Boot
with_drives drives boot = record boot { drives = drives_with drives boot.drives }

-- The images of these drives come first, and a script after them. Its drives and these are attached; at boot the disks have
-- the sectors of the images, and then those that the script says.
pub record IsInput (meaning : Meaning) (drives : List ℕ) (remaining : Option (List ℕ)) (input : ScriptInput) : Type 0 where
  pub first : List SectorWrite
  pub rest : Option (List ℕ)
  pub images : ComeFirst drives first remaining rest
  pub boot : Boot
  pub says : BytesSay meaning rest (Ok (boot, input.script.lines.items))
  pub attached : boot_of input.script.setup ≡ with_drives drives boot
  pub sectors : input.sectors.items ≡ first ++ map boot_write input.script.setup.sectors.items

-- the line of this number is the first bad one of what comes after the images
pub record IsBadInput (meaning : Meaning) (drives : List ℕ) (remaining : Option (List ℕ)) (line : ℕ) : Type 0 where
  pub first : List SectorWrite
  pub rest : Option (List ℕ)
  pub images : ComeFirst drives first remaining rest
  pub says : BytesSay meaning rest (Err line)

-- why no input is read: nothing but a bad line is wrong with its bytes
abbrev pub RefusesInput : Meaning → List ℕ → Option (List ℕ) → Failure → Type 0
RefusesInput meaning drives remaining (BadScript line) = IsBadInput meaning drives remaining line
RefusesInput meaning drives remaining OutOfMemory = Unit {0}
RefusesInput meaning drives remaining InputOrOutput = Unit {0}
RefusesInput meaning drives remaining failure = ⊥

-- an input is read, or none
abbrev pub ReadsInput : Meaning → List ℕ → Option (List ℕ) → Result ScriptInput Failure → Type 0
ReadsInput meaning drives remaining (Ok input) = IsInput meaning drives remaining input
ReadsInput meaning drives remaining (Err failure) = RefusesInput meaning drives remaining failure
