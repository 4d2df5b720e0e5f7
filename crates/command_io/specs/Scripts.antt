-- What a command reads: the script that the bytes of its reader are, or the number of their first bad line.
use Rattle.std.specs.Prelude.{◌≡◌, ℕ, ◌+◌, List, Option, Result, Ok, Err, IfSome, take}
use Rattle.command_io.specs.declared.failure.Failure.{Failure}
use Rattle.command_io.specs.declared.failure.Failure.TheVariants.{BadScript, OutOfMemory, InputOrOutput}
use Rattle.script_language.specs.Booting.{Boot, boot_of}
use Rattle.script_language.specs.declared.line.Line.{Line}
use Rattle.script_language.specs.declared.reader.TheConstants.{SCRIPT_BYTES}
use Rattle.script_language.specs.declared.script.Script.{Script}

-- what a text says, a script or the number of its first bad line: as any script does, or as one of a pair on threads does
abbrev pub Meaning : Type 0
Meaning = List ℕ → Result (Boot × List Line) ℕ

-- The bytes that are left of a reader say this. A script has 1,048,576 of them at most, and one more is read. If it is not
-- known what a reader has, nothing is claimed.
abbrev pub BytesSay : Meaning → Option (List ℕ) → Result (Boot × List Line) ℕ → Type 0
BytesSay meaning remaining said = IfSome remaining (λ bytes. meaning (take (SCRIPT_BYTES + 1) bytes) ≡ said)

-- why no script is read: a bad line is the one that the bytes say; nothing else is wrong with them
abbrev pub RefusesBytes : Meaning → Option (List ℕ) → Failure → Type 0
RefusesBytes meaning remaining (BadScript line) = BytesSay meaning remaining (Err line)
RefusesBytes meaning remaining OutOfMemory = Unit {0}
RefusesBytes meaning remaining InputOrOutput = Unit {0}
RefusesBytes meaning remaining failure = ⊥

-- a script is read, or none
abbrev pub Reads : Meaning → Option (List ℕ) → Result Script Failure → Type 0
Reads meaning remaining (Ok script) = BytesSay meaning remaining (Ok (boot_of script.setup, script.lines.items))
Reads meaning remaining (Err failure) = RefusesBytes meaning remaining failure
