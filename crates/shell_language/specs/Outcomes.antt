-- What became of a line.
use Rattle.std.specs.Prelude.{Bool, true, false}
use Rattle.shell_language.specs.declared.outcome.LineOutcome.{LineOutcome}
use Rattle.shell_language.specs.declared.outcome.LineOutcome.TheVariants as outcome

-- the session ends with it
abbrev pub is_ended : LineOutcome → Bool
is_ended outcome.Ended = true
is_ended _ = false
