-- Where a plan has led a pair, and what is printed of it.
use Rattle.std.specs.Prelude.{ℕ, List, [], ◌∷◌, ◌++◌, codes}
use Rattle.guest_lockstep.specs.Machine.{Machine}
use Rattle.pair_protocol.specs.World.{World}
use Rattle.pair_shell.specs.Ending.{Rests}
use Rattle.pair_shell.specs.Serves.{NobodyServes, SomebodyServes}
use Rattle.std.specs.Fmt.{decimal}
use Rattle.shell_picture.specs.Answers.{refused_text}
use Rattle.shell_language.specs.Texts.{Prints, Row, Text, Words}
use Rattle.shell_language.specs.declared.printing.Printed.{Printed}
use Rattle.pair_shell.specs.declared.resting.Rested.{Rested}
use Rattle.pair_shell.specs.declared.resting.Rested.TheVariants as rested

-- `K of at most B events: `
abbrev pub events_text : ℕ → ℕ → List ℕ → List ℕ
events_text made most ending = decimal made ++ (codes " of at most " ++ (decimal most ++ (codes " events: " ++ ending)))

-- where the events have led: the pair is at rest, or no node may serve, or the last event was refused
abbrev pub rest_row : Rested → ℕ → ℕ → Row
rest_row rested.AtRest made most = Text (events_text made most (codes "at rest"))
rest_row rested.Nobody made most = Text (codes "no node may serve")
rest_row (rested.Refused fault) made most = Words (events_text made most (refused_text fault)) fault []
rest_row rested.Unrested made most = Text (events_text made most (codes "not at rest"))

-- at rest: one of so many hosts may serve in this generation, and no event of the plan is left; or no host may
abbrev pub HasLed : {S : Type 0} → Machine S → World S → ℕ → ℕ → ℕ → ℕ → Rested → Type 0
HasLed M w hosts parts arrived generation rested.AtRest =
    SomebodyServes w generation × Rests M w hosts parts arrived generation
HasLed M w hosts parts arrived generation rested.Nobody = NobodyServes w hosts generation
HasLed M w hosts parts arrived generation (rested.Refused fault) = Unit {0}
HasLed M w hosts parts arrived generation rested.Unrested = Unit {0}

-- the last row says where events have led, how many they were, and how many there may be
pub record SaysWhere (Led : ℕ → Rested → Type 0) (new : Printed) : Type 0 where
  pub rested : Rested
  pub arrived : ℕ
  pub made : ℕ
  pub most : ℕ
  pub before : Printed
  pub row : Prints (rest_row rested made most ∷ []) before new
  pub led : Led arrived rested
