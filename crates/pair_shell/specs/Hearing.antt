-- What the shell answers, and what it writes.
use Rattle.std.specs.Prelude.{ℕ, Option, List, IfSome, Result, MatchResult}
use Rattle.std.specs.Io.KnownBytes.{Appends}
use Rattle.command_io.specs.declared.failure.Failure.{Failure}
use Rattle.command_io.specs.declared.failure.Failure.TheVariants.{OutOfMemory, InputOrOutput}
use Rattle.pair_shell.specs.Answering.{HaveAnswers, IsNew, Sitting}
use Rattle.pair_shell.specs.Lines.{heard}

-- some answers were written after what was there
abbrev pub Writes : Option (List ℕ) → Option (List ℕ) → Type 0
Writes old new = (answers : List ℕ) × Appends old new answers

-- the answers before a failure were written; nothing is claimed if input or output failed
abbrev pub AnswersTo : Failure → Option (List ℕ) → Option (List ℕ) → Type 0
AnswersTo OutOfMemory old new = Writes old new
AnswersTo InputOrOutput old new = Unit {0}
AnswersTo _ old new = ⊥

-- a session that has ended like this
abbrev pub Answers : {A : Type 0} → Result A Failure → Option (List ℕ) → Option (List ℕ) → Type 0
Answers result old new = MatchResult result (λ _. Writes old new) (λ failure. AnswersTo failure old new)

-- these lines were answered by a session, from its first line on
pub record AnswersLines (lines : List (List ℕ)) (old new : Option (List ℕ)) : Type 0 where
  pub first : Sitting
  pub is_new : IsNew first
  pub answered : HaveAnswers first lines old new

-- a session over an input that ended like this; nothing is claimed of the lines if it is not known what a reader has
abbrev pub HearsAll : Option (List ℕ) → Option (List ℕ) → Option (List ℕ) → Type 0
HearsAll input old new = Writes old new × IfSome input (λ bytes. AnswersLines (heard bytes) old new)

abbrev pub Hears : Option (List ℕ) → Result (Unit {0}) Failure → Option (List ℕ) → Option (List ℕ) → Type 0
Hears input result old new = MatchResult result (λ _. HearsAll input old new) (λ failure. AnswersTo failure old new)
