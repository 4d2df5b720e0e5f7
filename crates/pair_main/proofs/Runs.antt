-- What a command prints is what obeying its request leaves.
use Rattle.std.proofs.Common.{◌≡◌, ℕ, Option, List, Result, Ok, Err, String, Global, string_bytes, inl, inr, refl, subst, sym}
use Rattle.std.specs.Global.{Vec}
use Rattle.command_script.specs.Linting.{Lints}
use Rattle.command_io.specs.Typed.{typed_in}
use Rattle.command_live.specs.Living.{PrintsLive}
use Rattle.command_script.specs.Drawing.{Draws}
use Rattle.command_script.specs.Printing as script
use Rattle.pair_main.specs.Runs.{IsObeyed, IsRun, IsScriptOf, Writes, asked_by}
use Rattle.pair_shell.specs.Hearing.{Hears}
use Rattle.command_io.specs.declared.failure.Failure.{Failure}
use Rattle.command_io.specs.declared.failure.Failure.TheVariants as failure
use Rattle.command_script.specs.declared.order.ScriptTask.{ScriptTask}
use Rattle.command_script.specs.declared.order.ScriptTask.TheVariants as order
use Rattle.command_io.specs.Inputs.{ReadsInput, meaning_of}
use Rattle.command_io.specs.declared.input.ScriptInput.{ScriptInput}
use Rattle.command_io.specs.declared.input.Language.{Language}
use Rattle.command_io.specs.declared.input.Language.TheVariants.{Any, Threads}
use Rattle.command_line.specs.Orders.{IsAsked, IsRefused}
use Rattle.command_line.specs.declared.console_order.ConsoleOrder.{ConsoleOrder}
use Rattle.command_line.specs.declared.host_order.HostOrder.{HostOrder}
use Rattle.command_line.specs.declared.live_order.LiveOrder.{LiveOrder}
use Rattle.command_line.specs.declared.options.Request.{Request}
use Rattle.command_line.specs.declared.options.Request.TheVariants as request
use Rattle.script_language.specs.Live.{live_script_of}
use Rattle.script_language.specs.Meaning.{script_of}

module _ {R W : Type 0} (remaining : R → Option (List ℕ)) (contents : W → Option (List ℕ)) (reader reader' : R)
    (writer writer' : W) where
  -- the request of the words, and what they leave that ask for nothing
  pub obeyed : (words : List (List ℕ)) (asked : Request) (result : Result (Unit {0}) Failure) → IsAsked words asked
      → IsObeyed remaining contents reader reader' writer writer' asked result
      → IsRun remaining contents reader reader' writer writer' words result
  obeyed words asked result by_words h = inl (record { asked = asked; by_words = by_words; obeyed = h })

  pub refuses_words : (words : List (List ℕ)) (f : Failure) → IsRefused words f
      → IsRun remaining contents reader reader writer writer words (Err f)
  refuses_words words f h = inr (record { failed = h; reads_nothing = refl; prints_nothing = refl })

  -- ---- a script that is refused

  refuses : (asked : Request) (language : Language) (drives : List ℕ) (f : Failure) → IsScriptOf asked drives language
      → ReadsInput (meaning_of language) drives (remaining reader) (Err f)
      → IsObeyed remaining contents reader reader' writer writer asked (Err f)
  refuses asked language drives (failure.BadScript line) of h =
      inl (record { prints_nothing = refl; drives = drives; language = language; of_request = of; refused = h })
  refuses asked language drives failure.OutOfMemory of h = inl refl
  refuses asked language drives failure.InputOrOutput of h = inl refl
  refuses asked language drives (failure.CommandLine text) of h = absurd h
  refuses asked language drives failure.Stalled of h = absurd h
  refuses asked language drives failure.Differs of h = absurd h

  pub refuses_order : (order : ScriptTask) (images : Vec ℕ) (drives : List ℕ) (f : Failure) → drives ≡ images.items
      → ReadsInput script_of drives (remaining reader) (Err f)
      → IsObeyed remaining contents reader reader' writer writer (asked_by order images) (Err f)
  refuses_order order.Script images drives f same h = refuses (request.Script images) Any drives f (same, refl) h
  refuses_order order.Check images drives f same h = refuses (request.Check images) Any drives f (same, refl) h

  pub refuses_picture : (images : Vec ℕ) (drives : List ℕ) (f : Failure) → drives ≡ images.items
      → ReadsInput script_of drives (remaining reader) (Err f)
      → IsObeyed remaining contents reader reader' writer writer (request.Picture images) (Err f)
  refuses_picture images drives f same h = refuses (request.Picture images) Any drives f (same, refl) h

  pub refuses_live : (how : LiveOrder) (drives : List ℕ) (f : Failure) → drives ≡ how.images.items
      → ReadsInput live_script_of drives (remaining reader) (Err f)
      → IsObeyed remaining contents reader reader' writer writer (request.Live how) (Err f)
  refuses_live how drives f same h = refuses (request.Live how) Threads drives f (same, refl) h

  -- ---- a run of a script that was read

  script_by : (images : Vec ℕ) (input : ScriptInput) (result : Result (Unit {0}) Failure)
      → ReadsInput script_of images.items (remaining reader) (Ok input)
      → script.Prints order.Script input.script.setup input.sectors.items input.script.lines.items result (contents writer)
      (contents writer') → IsObeyed remaining contents reader reader' writer writer' (request.Script images) result
  script_by images input (Ok done) read h = record { input = input; read = read; obeyed = h }
  script_by images input (Err failure.OutOfMemory) read h = inr (record { input = input; read = read; obeyed = h })
  script_by images input (Err failure.InputOrOutput) read h = inr (record { input = input; read = read; obeyed = h })
  script_by images input (Err failure.Differs) read h = record { input = input; read = read; obeyed = h }
  script_by images input (Err failure.Stalled) read h = absurd h.1
  script_by images input (Err (failure.CommandLine text)) read h = absurd h.1
  script_by images input (Err (failure.BadScript line)) read h = absurd h.1

  check_by : (images : Vec ℕ) (input : ScriptInput) (result : Result (Unit {0}) Failure)
      → ReadsInput script_of images.items (remaining reader) (Ok input)
      → script.Prints order.Check input.script.setup input.sectors.items input.script.lines.items result (contents writer)
      (contents writer') → IsObeyed remaining contents reader reader' writer writer' (request.Check images) result
  check_by images input (Ok done) read h = record { input = input; read = read; obeyed = h }
  check_by images input (Err failure.OutOfMemory) read h = inr (record { input = input; read = read; obeyed = h })
  check_by images input (Err failure.InputOrOutput) read h = inr (record { input = input; read = read; obeyed = h })
  check_by images input (Err failure.Differs) read h = record { input = input; read = read; obeyed = h }
  check_by images input (Err failure.Stalled) read h = absurd h.1
  check_by images input (Err (failure.CommandLine text)) read h = absurd h.1
  check_by images input (Err (failure.BadScript line)) read h = absurd h.1

  run_by : (order : ScriptTask) (images : Vec ℕ) (input : ScriptInput) (result : Result (Unit {0}) Failure)
      → ReadsInput script_of images.items (remaining reader) (Ok input)
      → script.Prints order input.script.setup input.sectors.items input.script.lines.items result (contents writer)
      (contents writer') → IsObeyed remaining contents reader reader' writer writer' (asked_by order images) result
  run_by order.Script images input result read h = script_by images input result read h
  run_by order.Check images input result read h = check_by images input result read h

  pub is_run : (order : ScriptTask) (images : Vec ℕ) (drives : List ℕ) (input : ScriptInput) (result : Result (Unit {0}) Failure)
      → drives ≡ images.items → ReadsInput script_of drives (remaining reader) (Ok input)
      → script.Prints order input.script.setup input.sectors.items input.script.lines.items result (contents writer)
      (contents writer') → IsObeyed remaining contents reader reader' writer writer' (asked_by order images) result
  is_run order images drives input result same read h = run_by order images input result
      (subst (λ ds. ReadsInput script_of ds (remaining reader) (Ok input)) same read) h

  picture_by : (images : Vec ℕ) (input : ScriptInput) (result : Result (Unit {0}) Failure)
      → ReadsInput script_of images.items (remaining reader) (Ok input)
      → Draws input.script.setup input.sectors.items input.script.lines.items result (contents writer) (contents writer')
      → IsObeyed remaining contents reader reader' writer writer' (request.Picture images) result
  picture_by images input (Ok done) read h = record { input = input; read = read; obeyed = h }
  picture_by images input (Err failure.OutOfMemory) read h = inr (record { input = input; read = read; obeyed = h })
  picture_by images input (Err failure.InputOrOutput) read h = inr (record { input = input; read = read; obeyed = h })
  picture_by images input (Err failure.Stalled) read h = absurd h
  picture_by images input (Err failure.Differs) read h = absurd h
  picture_by images input (Err (failure.CommandLine text)) read h = absurd h
  picture_by images input (Err (failure.BadScript line)) read h = absurd h

  pub is_picture : (images : Vec ℕ) (drives : List ℕ) (input : ScriptInput) (result : Result (Unit {0}) Failure)
      → drives ≡ images.items → ReadsInput script_of drives (remaining reader) (Ok input)
      → Draws input.script.setup input.sectors.items input.script.lines.items result (contents writer) (contents writer')
      → IsObeyed remaining contents reader reader' writer writer' (request.Picture images) result
  is_picture images drives input result same read h = picture_by images input result
      (subst (λ ds. ReadsInput script_of ds (remaining reader) (Ok input)) same read) h

  live_by : (how : LiveOrder) (input : ScriptInput) (result : Result (Unit {0}) Failure)
      → ReadsInput live_script_of how.images.items (remaining reader) (Ok input)
      → PrintsLive input.script.setup input.sectors.items (typed_in 0 input.script.lines.items) (typed_in 1 input.script.lines.items)
      how result (contents writer) (contents writer')
      → IsObeyed remaining contents reader reader' writer writer' (request.Live how) result
  live_by how input (Ok done) read h = record { input = input; read = read; obeyed = h }
  live_by how input (Err failure.OutOfMemory) read h = inr (record { input = input; read = read; obeyed = h })
  live_by how input (Err failure.InputOrOutput) read h = inr (record { input = input; read = read; obeyed = h })
  live_by how input (Err failure.Stalled) read h = record { input = input; read = read; obeyed = h }
  live_by how input (Err failure.Differs) read h = absurd h
  live_by how input (Err (failure.CommandLine text)) read h = absurd h
  live_by how input (Err (failure.BadScript line)) read h = absurd h

  pub is_live : (how : LiveOrder) (drives : List ℕ) (input : ScriptInput) (result : Result (Unit {0}) Failure)
      → drives ≡ how.images.items → ReadsInput live_script_of drives (remaining reader) (Ok input)
      → PrintsLive input.script.setup input.sectors.items (typed_in 0 input.script.lines.items) (typed_in 1 input.script.lines.items)
      how result (contents writer) (contents writer')
      → IsObeyed remaining contents reader reader' writer writer' (request.Live how) result
  is_live how drives input result same read h = live_by how input result
      (subst (λ ds. ReadsInput live_script_of ds (remaining reader) (Ok input)) same read) h

  -- ---- the requests, by their commands

  named : (asked other : Request) (result : Result (Unit {0}) Failure) → other ≡ asked
      → IsObeyed remaining contents reader reader' writer writer' asked result
      → IsObeyed remaining contents reader reader' writer writer' other result
  named asked other result is h =
      subst (λ r. IsObeyed remaining contents reader reader' writer writer' r result) (sym is) h

  pub obeys_script : (asked : Request) (images : Vec ℕ) (result : Result (Unit {0}) Failure) → asked ≡ request.Script images
      → IsObeyed remaining contents reader reader' writer writer' (asked_by order.Script images) result
      → IsObeyed remaining contents reader reader' writer writer' asked result
  obeys_script asked images result is h = named (request.Script images) asked result is h

  pub obeys_check : (asked : Request) (images : Vec ℕ) (result : Result (Unit {0}) Failure) → asked ≡ request.Check images
      → IsObeyed remaining contents reader reader' writer writer' (asked_by order.Check images) result
      → IsObeyed remaining contents reader reader' writer writer' asked result
  obeys_check asked images result is h = named (request.Check images) asked result is h

  pub obeys_picture : (asked : Request) (images : Vec ℕ) (result : Result (Unit {0}) Failure) → asked ≡ request.Picture images
      → IsObeyed remaining contents reader reader' writer writer' (request.Picture images) result
      → IsObeyed remaining contents reader reader' writer writer' asked result
  obeys_picture asked images result is h = named (request.Picture images) asked result is h

  pub obeys_live : (asked : Request) (how : LiveOrder) (result : Result (Unit {0}) Failure) → asked ≡ request.Live how
      → IsObeyed remaining contents reader reader' writer writer' (request.Live how) result
      → IsObeyed remaining contents reader reader' writer writer' asked result
  obeys_live asked how result is h = named (request.Live how) asked result is h

  by_lint : (result : Result (Unit {0}) Failure) → Lints (remaining reader) result (contents writer) (contents writer')
      → IsObeyed remaining contents reader reader' writer writer' request.Lint result
  by_lint (Ok done) h = h
  by_lint (Err failure.OutOfMemory) h = inr h
  by_lint (Err failure.InputOrOutput) h = inr h
  by_lint (Err (failure.BadScript line)) h = inr h
  by_lint (Err failure.Stalled) h = absurd h.lints
  by_lint (Err failure.Differs) h = absurd h.lints
  by_lint (Err (failure.CommandLine text)) h = absurd h.lints

  pub obeys_lint : (asked : Request) (result : Result (Unit {0}) Failure) → asked ≡ request.Lint
      → Lints (remaining reader) result (contents writer) (contents writer')
      → IsObeyed remaining contents reader reader' writer writer' asked result
  obeys_lint asked result is h = named request.Lint asked result is (by_lint result h)

  by_shell : (result : Result (Unit {0}) Failure) → Hears (remaining reader) result (contents writer) (contents writer')
      → IsObeyed remaining contents reader reader' writer writer' request.Shell result
  by_shell (Ok done) h = h
  by_shell (Err failure.OutOfMemory) h = inr h
  by_shell (Err failure.InputOrOutput) h = inr h
  by_shell (Err failure.Stalled) h = absurd h
  by_shell (Err failure.Differs) h = absurd h
  by_shell (Err (failure.CommandLine text)) h = absurd h
  by_shell (Err (failure.BadScript line)) h = absurd h

  pub obeys_shell : (asked : Request) (result : Result (Unit {0}) Failure) → asked ≡ request.Shell
      → Hears (remaining reader) result (contents writer) (contents writer')
      → IsObeyed remaining contents reader reader' writer writer' asked result
  obeys_shell asked result is h = named request.Shell asked result is (by_shell result h)

  by_help : (text : String Global) (result : Result (Unit {0}) Failure)
      → Writes (string_bytes text) result (contents writer) (contents writer')
      → IsObeyed remaining contents reader reader' writer writer' (request.Help text) result
  by_help text (Ok done) h = h
  by_help text (Err failure.InputOrOutput) h = inr h
  by_help text (Err failure.OutOfMemory) h = absurd h
  by_help text (Err failure.Stalled) h = absurd h
  by_help text (Err failure.Differs) h = absurd h
  by_help text (Err (failure.CommandLine words)) h = absurd h
  by_help text (Err (failure.BadScript line)) h = absurd h

  pub obeys_help : (asked : Request) (text : String Global) (result : Result (Unit {0}) Failure) → asked ≡ request.Help text
      → Writes (string_bytes text) result (contents writer) (contents writer')
      → IsObeyed remaining contents reader reader' writer writer' asked result
  obeys_help asked text result is h = named (request.Help text) asked result is (by_help text result h)

  -- a process of a pair runs over other streams
  pub obeys_host : (asked : Request) (how : HostOrder) → asked ≡ request.Host how
      → IsObeyed remaining contents reader reader writer writer asked (Ok tt)
  obeys_host asked how is =
      subst (λ r. IsObeyed remaining contents reader reader writer writer r (Ok tt)) (sym is) (refl, refl)

  pub obeys_console : (asked : Request) (how : ConsoleOrder) → asked ≡ request.Console how
      → IsObeyed remaining contents reader reader writer writer asked (Ok tt)
  obeys_console asked how is =
      subst (λ r. IsObeyed remaining contents reader reader writer writer r (Ok tt)) (sym is) (refl, refl)

  -- a disk is taken up over files
  pub obeys_recover : (asked : Request) (path : String Global) → asked ≡ request.Recover path
      → IsObeyed remaining contents reader reader writer writer asked (Ok tt)
  obeys_recover asked path is =
      subst (λ r. IsObeyed remaining contents reader reader writer writer r (Ok tt)) (sym is) (refl, refl)
