-- What was searched so far has not sent the message.
use Rattle.std.proofs.Common.{◌≤◌}
use Rattle.sequence_diagram.specs.Arrows.{SentNowhere}
use Rattle.sequence_diagram.proofs.arrows.sent_before.Given as goal

abbrev pub invariant-places : goal.invariant-places
invariant-places l = record {
  within : l.before ≤ l.place;
  none : SentNowhere l.moments l.before l.place l.message;
}

abbrev pub decreases-places : goal.decreases-places
decreases-places l = l.before
