-- What was searched so far has not brought the message.
use Rattle.std.proofs.Common.{◌+◌}
use Rattle.sequence_diagram.specs.Arrows.{BroughtNowhere}
use Rattle.sequence_diagram.proofs.arrows.brought_after.Given as goal

abbrev pub invariant-places : goal.invariant-places
invariant-places l = BroughtNowhere l.moments (l.place + 1) l.later l.message
