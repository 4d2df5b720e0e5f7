-- It is the newest of those so far.
use Rattle.sequence_diagram.specs.Keeping.{IsNewest}
use Rattle.sequence_diagram.proofs.kept.newest_before.Given as goal

abbrev pub invariant-loop-before : goal.invariant-loop-before
invariant-loop-before l = IsNewest l.moments l.before l.address l.newest
