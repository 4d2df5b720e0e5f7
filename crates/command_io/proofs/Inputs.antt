-- Images and the script after them are an input; whatever ends before is a refusal.
use Rattle.std.proofs.Common.{◌≡◌, ℕ, Option, List, ◌++◌, map, Ok, Err, inl, inr, sym, subst}
use Rattle.std.specs.Prelude.{◌⊎◌}
use Rattle.command_io.specs.Scripts.{BytesSay, Meaning, Reads}
use Rattle.command_io.specs.declared.failure.Failure.{Failure}
use Rattle.command_io.specs.declared.failure.Failure.TheVariants as failure
use Rattle.command_io.specs.Images.{ComeFirst}
use Rattle.command_io.specs.Inputs.{ReadsInput, RefusesInput, with_drives}
use Rattle.command_io.specs.declared.input.ScriptInput.{ScriptInput}
use Rattle.disk_dcdd.specs.declared.sector.SectorWrite.{SectorWrite}
use Rattle.script_language.specs.Booting.{boot_of}
use Rattle.script_language.specs.Scripts.{boot_write}
use Rattle.script_language.specs.declared.line.Line.{Line}
use Rattle.script_language.specs.declared.script.Script.{Script}

module _ (meaning : Meaning) (drives : List ℕ) (remaining : Option (List ℕ)) where
  -- what ends before the script
  pub fails : (e : Failure) → (e ≡ failure.OutOfMemory) ⊎ (e ≡ failure.InputOrOutput) → ReadsInput meaning drives remaining (Err e)
  fails e (inl is) = subst (λ f. RefusesInput meaning drives remaining f) (sym is) tt
  fails e (inr is) = subst (λ f. RefusesInput meaning drives remaining f) (sym is) tt

  -- a script that is refused
  pub refuses : (first : List SectorWrite) (rest : Option (List ℕ)) (e : Failure) → ComeFirst drives first remaining rest
      → Reads meaning rest (Err e) → ReadsInput meaning drives remaining (Err e)
  refuses first rest (failure.BadScript line) come read = record { first = first; rest = rest; images = come; says = read }
  refuses first rest failure.OutOfMemory come read = tt
  refuses first rest failure.InputOrOutput come read = tt
  refuses first rest (failure.CommandLine text) come read = read
  refuses first rest failure.Stalled come read = read
  refuses first rest failure.Differs come read = read

  -- a script that is read
  pub reads : (first : List SectorWrite) (rest : Option (List ℕ)) (script : Script) (input : ScriptInput)
      → ComeFirst drives first remaining rest → Reads meaning rest (Ok script)
      → input.script.lines.items ≡ script.lines.items → boot_of input.script.setup ≡ with_drives drives (boot_of script.setup)
      → input.sectors.items ≡ first ++ map boot_write input.script.setup.sectors.items
      → ReadsInput meaning drives remaining (Ok input)
  reads first rest script input come read lines boot sectors = record {
    first = first;
    rest = rest;
    images = come;
    boot = boot_of script.setup;
    says = subst (λ (ls : List Line). BytesSay meaning rest (Ok (boot_of script.setup, ls))) (sym lines) read;
    attached = boot;
    sectors = sectors;
  }
