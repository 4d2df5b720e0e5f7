-- What the thread that hears has handed on when it ends.
use Rattle.std.specs.Prelude.{◌≡◌, ℕ, Bool, true, false, List, [], ◌∷◌, ◌++◌, map, Option, Some}
use Rattle.std.specs.Global.{Global}
use Rattle.command_io.specs.Typed.{typed_in}
use Rattle.command_console.specs.declared.hearing.Hearing.{Hearing}
use Rattle.console_terminal.specs.Listening.{Listens}
use Rattle.console_terminal.specs.declared.command.Command.{Command}
use Rattle.console_terminal.specs.declared.listener.Ending.{Ending}
use Rattle.console_terminal.specs.Lines.{found}
use Rattle.console_terminal.specs.declared.keyboard.Stroke.{Stroke}
use Rattle.console_terminal.specs.declared.keyboard.Stroke.TheVariants.{Key}
use Rattle.rtrb.specs.Ring.{SameProducer, sent}
use Rattle.rtrb.specs.declared.AnyItems.{AnyItems}
use Rattle.rtrb.specs.declared.producer.Producer.{Producer}
use Rattle.script_language.specs.declared.line.Line.{Line}

-- keys that are pressed
abbrev pub presses : List ℕ → List Stroke
presses keys = map (λ (k : ℕ). Key k) keys

-- a key, if there is one, went to a keyboard
abbrev pub HasPressed : Option ℕ → Bool → Producer Stroke Global AnyItems → Producer Stroke Global AnyItems → Type 0
HasPressed key true old new = (sent new ≡ sent old ++ presses (found key)) × SameProducer old new
HasPressed key false old new = Unit {0}

-- just what these lines type went to the keyboards, in order
pub record LinesType (lines : List Line) (first second first' second' : Producer Stroke Global AnyItems) : Type 0 where
  pub first_is : sent first' ≡ sent first ++ presses (typed_in 0 lines)
  pub second_is : sent second' ≡ sent second ++ presses (typed_in 1 lines)
  pub same_first : SameProducer first first'
  pub same_second : SameProducer second second'

-- What the script types went to the keyboards first; then keys were heard until the console ended so.
pub record HasHeard {S I : Type 0} (left : S → Option (List ℕ)) (given : I → Option (List Command)) (ending : Ending)
    (old new : Hearing S I) : Type 0 where
  pub first : Producer Stroke Global AnyItems
  pub second : Producer Stroke Global AnyItems
  pub typed : LinesType old.lines.items old.listener.first old.listener.second first second
  pub listens : Listens left given (Some ending) (record old.listener { first = first; second = second }) new.listener
