-- After each event so far some operation waits.
use Rattle.std.proofs.Common.{◌+◌}
use Rattle.sequence_diagram.specs.Bars.{SomeWaits}
use Rattle.sequence_diagram.proofs.bars.end_after.Given as goal

abbrev pub invariant-places : goal.invariant-places
invariant-places l = SomeWaits l.waits (l.place + 1) l.later
