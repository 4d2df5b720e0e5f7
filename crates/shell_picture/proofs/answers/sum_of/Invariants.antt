-- What was counted so far, and what the events that are left come to, is all.
use Rattle.std.proofs.Common.{◌≡◌, length}
use Rattle.shell_picture.specs.Answers.{sum_from, sum_of}
use Rattle.shell_picture.proofs.answers.sum_of.Given as goal

abbrev pub invariant-events : goal.invariant-events
invariant-events l = sum_from l.sum l.rest ≡ sum_of l.tape

abbrev pub decreases-events : goal.decreases-events
decreases-events l = length l.rest
