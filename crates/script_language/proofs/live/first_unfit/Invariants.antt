-- The lines before the rest all fit, and the number is that of the first line of the rest.
use Rattle.std.proofs.Common.{◌≡◌, ◌≤◌, ◌+◌, ℕ, Option, length}
use Rattle.script_language.specs.Live.{first_unfit}
use Rattle.script_language.specs.Text.{lines_of}
use Rattle.script_language.proofs.live.first_unfit.Given as goal

pub record Looks (number rest all : ℕ) (found wanted : Option ℕ) : Type 0 where
  pub same : found ≡ wanted
  pub counted : 1 ≤ number
  pub within : number + rest ≤ all + 1

abbrev pub invariant-lines : goal.invariant-lines
invariant-lines l = Looks l.number (length l.rest) (length l.initial.rest) (first_unfit l.number (lines_of l.rest))
    (first_unfit 1 (lines_of l.initial.rest))

abbrev pub decreases-lines : goal.decreases-lines
decreases-lines l = length l.rest
