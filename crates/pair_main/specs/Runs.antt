-- One run of the program: what its words ask for, what it has read and printed, and how it ends.
use Rattle.std.specs.Prelude.{◌≡◌, ◌⊎◌, ℕ, Option, List, Result, Ok, Err, string_bytes}
use Rattle.std.specs.Io.KnownBytes.{Appends}
use Rattle.std.specs.Global.{Vec}
use Rattle.std.specs.Result.{IsErrAnd}
use Rattle.std.specs.declared.borrow.CowStr.{CowStr}
use Rattle.command_script.specs.Linting.{Lints}
use Rattle.command_io.specs.Typed.{typed_in}
use Rattle.command_live.specs.Living.{PrintsLive}
use Rattle.command_script.specs.Drawing.{Draws}
use Rattle.command_script.specs.Printing as script
use Rattle.pair_shell.specs.Hearing.{Hears}
use Rattle.command_io.specs.Scripts.{Meaning}
use Rattle.command_io.specs.Statuses.{EndsAs}
use Rattle.command_io.specs.declared.failure.Failure.{Failure}
use Rattle.command_io.specs.declared.failure.Failure.TheVariants.{CommandLine, BadScript}
use Rattle.command_io.specs.declared.failure.Failure.TheVariants.{OutOfMemory, InputOrOutput, Stalled, Differs}
use Rattle.command_io.specs.Inputs.{ReadsInput, meaning_of}
use Rattle.command_io.specs.declared.input.ScriptInput.{ScriptInput}
use Rattle.command_io.specs.declared.input.Language.{Language}
use Rattle.command_io.specs.declared.input.Language.TheVariants.{Any, Threads}
use Rattle.command_line.specs.Orders.{IsAsked, IsRefused}
use Rattle.command_line.specs.declared.options.Request.{Request}
use Rattle.command_line.specs.declared.options.Request.TheVariants as request
use Rattle.command_script.specs.declared.order.ScriptTask.{ScriptTask}
use Rattle.command_script.specs.declared.order.ScriptTask.TheVariants as order
use Rattle.script_language.specs.Live.{live_script_of}
use Rattle.script_language.specs.Meaning.{script_of}

-- bytes are written, whole, or input or output fails, and nothing is claimed
abbrev pub Writes : List ℕ → Result (Unit {0}) Failure → Option (List ℕ) → Option (List ℕ) → Type 0
Writes bytes (Ok done) old new = Appends old new bytes
Writes bytes (Err InputOrOutput) old new = Unit {0}
Writes bytes (Err failure) old new = ⊥

-- the images of these drives, and the script after them, which a reader had left
pub record IsOfReader (meaning : Meaning) (images : List ℕ) (remaining : Option (List ℕ)) (Obeyed : ScriptInput → Type 0) : Type 0 where
  pub input : ScriptInput
  pub read : ReadsInput meaning images remaining (Ok input)
  pub obeyed : Obeyed input

-- what a command prints: the lines of a script are answered, or the pair at their end is compared, or what happens is drawn, or
-- bad lines are named; a pair runs on threads, lines are answered as they come, or it is said what there is to ask
-- for; a process of a pair runs over other streams, a disk is taken up over files, and nothing is read or printed here
abbrev pub Obeys : Request → Option (List ℕ) → Option (List ℕ) → Result (Unit {0}) Failure → Option (List ℕ) → Option (List ℕ) →
    Type 0
Obeys (request.Script images) remaining after result old new = IsOfReader script_of images.items remaining (λ input.
    script.Prints order.Script input.script.setup input.sectors.items input.script.lines.items result old new)
Obeys (request.Check images) remaining after result old new = IsOfReader script_of images.items remaining (λ input.
    script.Prints order.Check input.script.setup input.sectors.items input.script.lines.items result old new)
Obeys (request.Picture images) remaining after result old new =
    IsOfReader script_of images.items remaining (λ input.
    Draws input.script.setup input.sectors.items input.script.lines.items result old new)
Obeys request.Lint remaining after result old new = Lints remaining result old new
Obeys (request.Live how) remaining after result old new = IsOfReader live_script_of how.images.items remaining (λ input.
    PrintsLive input.script.setup input.sectors.items (typed_in 0 input.script.lines.items) (typed_in 1 input.script.lines.items)
    how result old new)
Obeys request.Shell remaining after result old new = Hears remaining result old new
Obeys (request.Host how) remaining after result old new = (after ≡ remaining) × (new ≡ old)
Obeys (request.Console how) remaining after result old new = (after ≡ remaining) × (new ≡ old)
Obeys (request.Recover path) remaining after result old new = (after ≡ remaining) × (new ≡ old)
Obeys (request.Help text) remaining after result old new = Writes (string_bytes text) result old new

-- the request of an order
abbrev pub asked_by : ScriptTask → Vec ℕ → Request
asked_by order.Script images = request.Script images
asked_by order.Check images = request.Check images

-- the drives whose images a request has before its script, and the language of that script; the others have no script
abbrev pub IsScriptOf : Request → List ℕ → Language → Type 0
IsScriptOf (request.Script images) drives language = (drives ≡ images.items) × (language ≡ Any)
IsScriptOf (request.Check images) drives language = (drives ≡ images.items) × (language ≡ Any)
IsScriptOf (request.Picture images) drives language = (drives ≡ images.items) × (language ≡ Any)
IsScriptOf (request.Live how) drives language = (drives ≡ how.images.items) × (language ≡ Threads)
IsScriptOf other drives language = ⊥

module _ {R W : Type 0} (remaining : R → Option (List ℕ)) (contents : W → Option (List ℕ)) (reader reader' : R)
    (writer writer' : W) where
  -- the script of a request is refused for a line that is bad, and nothing is printed
  pub record Refuses (asked : Request) (line : ℕ) : Type 0 where
    pub prints_nothing : writer' ≡ writer
    pub drives : List ℕ
    pub language : Language
    pub of_request : IsScriptOf asked drives language
    pub refused : ReadsInput (meaning_of language) drives (remaining reader) (Err (BadScript line))

  -- what a command prints that ends like this
  abbrev pub Prints : Request → Result (Unit {0}) Failure → Type 0
  Prints asked result = Obeys asked (remaining reader) (remaining reader') result (contents writer) (contents writer')

  -- What a failure leaves of a request. A script with a bad line is refused, or its bad lines are named. If memory is refused or
  -- input fails before all of it was read, nothing is printed.
  abbrev pub Leaves : Request → Failure → Type 0
  Leaves asked (CommandLine text) = ⊥
  Leaves asked (BadScript line) = Refuses asked line ⊎ Prints asked (Err (BadScript line))
  Leaves asked OutOfMemory = (writer' ≡ writer) ⊎ Prints asked (Err OutOfMemory)
  Leaves asked InputOrOutput = (writer' ≡ writer) ⊎ Prints asked (Err InputOrOutput)
  Leaves asked Stalled = Prints asked (Err Stalled)
  Leaves asked Differs = Prints asked (Err Differs)

  -- a request was obeyed, with this end
  abbrev pub IsObeyed : Request → Result (Unit {0}) Failure → Type 0
  IsObeyed asked (Ok done) = Prints asked (Ok done)
  IsObeyed asked (Err failure) = Leaves asked failure

  -- the words ask for this request, and it was obeyed
  pub record Obeyed (words : List (List ℕ)) (result : Result (Unit {0}) Failure) : Type 0 where
    pub asked : Request
    pub by_words : IsAsked words asked
    pub obeyed : IsObeyed asked result

  -- the words ask for nothing, or memory is refused for reading them: nothing is read or printed
  pub record RefusesWords (words : List (List ℕ)) (result : Result (Unit {0}) Failure) : Type 0 where
    pub failed : IsErrAnd result (IsRefused words)
    pub reads_nothing : reader' ≡ reader
    pub prints_nothing : writer' ≡ writer

  -- one run of the program on these words
  abbrev pub IsRun : List (List ℕ) → Result (Unit {0}) Failure → Type 0
  IsRun words result = Obeyed words result ⊎ RefusesWords words result

-- some run on these words ends with this status and this text
pub record IsEnding {R W Z : Type 0} (remaining : R → Option (List ℕ)) (contents : W → Option (List ℕ)) (reader reader' : R)
    (writer writer' : W) (words : List (List ℕ)) (ending : ℕ × CowStr Z) : Type 0 where
  pub result : Result (Unit {0}) Failure
  pub run : IsRun remaining contents reader reader' writer writer' words result
  pub ends : EndsAs result ending
