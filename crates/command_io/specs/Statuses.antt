-- How the program ends: its exit statuses, and what is written to standard error.
use Rattle.std.specs.Prelude.{◌≡◌, ℕ, ◌⊎◌, Bool, true, false, List, [], ◌++◌, Result, Ok, Err, codes, string_bytes}
use Rattle.std.specs.Fmt.{decimal}
use Rattle.std.specs.Cow.{cow_str_bytes}
use Rattle.std.specs.declared.borrow.CowStr.{CowStr}
use Rattle.command_io.specs.declared.failure.Failure.{Failure}
use Rattle.command_io.specs.declared.failure.Failure.TheVariants.{CommandLine, BadScript}
use Rattle.command_io.specs.declared.failure.Failure.TheVariants.{OutOfMemory, InputOrOutput, Stalled, Differs}
use Rattle.script_language.specs.declared.error.InputError.{InputError}
use Rattle.script_language.specs.declared.error.InputError.TheVariants as input
use Rattle.script_language.specs.declared.error.ScriptError.{ScriptError}
use Rattle.script_language.specs.declared.error.ScriptError.TheVariants as script

-- why the input is not read, and why it is not a script, as failures
abbrev pub of_input : InputError → Failure
of_input input.Failed = InputOrOutput
of_input input.OutOfMemory = OutOfMemory

abbrev pub of_script : ScriptError → Failure
of_script (script.BadScript line) = BadScript line
of_script script.OutOfMemory = OutOfMemory

-- what may be wrong before anything is read
abbrev pub is_of_command_line : Failure → Bool
is_of_command_line (CommandLine text) = true
is_of_command_line OutOfMemory = true
is_of_command_line _ = false

-- the exit status of a failure; 2 if the command line is refused, or asks for help or the version. A run that ends well
-- has 0.
abbrev pub status_of : Failure → ℕ
status_of (CommandLine text) = 2
status_of (BadScript line) = 3
status_of OutOfMemory = 4
status_of InputOrOutput = 5
status_of Stalled = 6
status_of Differs = 7

-- its text for standard error; that a pair differs is told on standard output
abbrev pub text_of : Failure → List ℕ
text_of (CommandLine text) = string_bytes text
text_of (BadScript line) = codes "bad script at line " ++ decimal line
text_of OutOfMemory = codes "out of memory"
text_of InputOrOutput = codes "input or output failed"
text_of Stalled = codes "stalled"
text_of Differs = []

-- a status and a text are those of a failure
pub record EndsBy {Z : Type 0} (failure : Failure) (ending : ℕ × CowStr Z) : Type 0 where
  pub status : ending.0 ≡ status_of failure
  pub text : cow_str_bytes ending.1 ≡ text_of failure

-- the status and the text of a failure; those of `OutOfMemory` if memory for the text is refused
abbrev pub EndsIn : {Z : Type 0} → Failure → ℕ × CowStr Z → Type 0
EndsIn (BadScript line) ending = EndsBy (BadScript line) ending ⊎ EndsBy OutOfMemory ending
EndsIn failure ending = EndsBy failure ending

-- status 0 and no text if all went well
abbrev pub EndsAs : {Z : Type 0} → Result (Unit {0}) Failure → ℕ × CowStr Z → Type 0
EndsAs (Ok done) ending = (ending.0 ≡ 0) × (cow_str_bytes ending.1 ≡ [])
EndsAs (Err failure) ending = EndsIn failure ending
