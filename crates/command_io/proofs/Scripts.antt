-- What is read of a reader, and parsed, is the script of its bytes.
use Rattle.std.proofs.Common.{◌≡◌, ℕ, ◌+◌, List, Option, Some, None, Result, Ok, Err, ap, sym, ◌∙◌}
use Rattle.std.specs.Prelude.{IfSome, take}
use Rattle.command_io.specs.Scripts.{BytesSay, Meaning, Reads}
use Rattle.command_io.specs.Statuses.{of_input, of_script}
use Rattle.script_language.specs.Booting.{Boot, boot_of}
use Rattle.script_language.specs.Meaning.{Answers}
use Rattle.script_language.specs.declared.error.InputError.{InputError}
use Rattle.script_language.specs.declared.error.InputError.TheVariants as input
use Rattle.script_language.specs.declared.error.ScriptError.{ScriptError}
use Rattle.script_language.specs.declared.error.ScriptError.TheVariants as error
use Rattle.script_language.specs.declared.line.Line.{Line}
use Rattle.script_language.specs.declared.reader.TheConstants.{SCRIPT_BYTES}
use Rattle.script_language.specs.declared.script.Script.{Script}

module _ (meaning : Meaning) where
  -- what is said of the bytes that were read is said of those that the reader had
  say : (remaining : Option (List ℕ)) (bytes text : List ℕ) (said : Result (Boot × List Line) ℕ)
      → IfSome remaining (λ all. bytes ≡ take (SCRIPT_BYTES + 1) all) → text ≡ bytes → meaning text ≡ said
      → BytesSay meaning remaining said
  say None bytes text said are is says = tt
  say (Some all) bytes text said are is says = ap meaning (sym are) ∙ ap meaning (sym is) ∙ says

  -- a script
  pub reads_script : (remaining : Option (List ℕ)) (bytes text : List ℕ) (script : Script)
      → IfSome remaining (λ all. bytes ≡ take (SCRIPT_BYTES + 1) all) → text ≡ bytes → Answers (Ok script) (meaning text)
      → Reads meaning remaining (Ok script)
  reads_script remaining bytes text script are is says =
      say remaining bytes text (Ok (boot_of script.setup, script.lines.items)) are is says

  -- a bad line, or no memory to parse them
  pub reads_no_script : (remaining : Option (List ℕ)) (bytes text : List ℕ) (why : ScriptError)
      → IfSome remaining (λ all. bytes ≡ take (SCRIPT_BYTES + 1) all) → text ≡ bytes → Answers (Err why) (meaning text)
      → Reads meaning remaining (Err (of_script why))
  reads_no_script remaining bytes text (error.BadScript line) are is says = say remaining bytes text (Err line) are is says
  reads_no_script remaining bytes text error.OutOfMemory are is says = tt

  -- bytes that could not be read
  pub reads_nothing : (remaining : Option (List ℕ)) (why : InputError) → Reads meaning remaining (Err (of_input why))
  reads_nothing remaining input.Failed = tt
  reads_nothing remaining input.OutOfMemory = tt
