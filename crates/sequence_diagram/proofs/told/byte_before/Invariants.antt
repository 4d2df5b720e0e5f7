-- No event so far has typed the key.
use Rattle.sequence_diagram.specs.Keys.{TypedNowhere}
use Rattle.sequence_diagram.proofs.told.byte_before.Given as goal

abbrev pub invariant-places : goal.invariant-places
invariant-places l = TypedNowhere l.moments 0 l.before l.port l.index
