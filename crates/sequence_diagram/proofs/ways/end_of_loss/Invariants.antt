-- At none of the reaches so far it is free.
use Rattle.std.proofs.Common.{◌≡◌, length}
use Rattle.sequence_diagram.specs.Losses.{end_of_loss, first_free}
use Rattle.sequence_diagram.proofs.ways.end_of_loss.Given as goal

abbrev pub invariant-reaches : goal.invariant-reaches
invariant-reaches l = first_free l.plan.columns.places.items l.ways l.from l.aim l.rest
    ≡ end_of_loss l.plan.columns.places.items l.ways l.from l.aim

abbrev pub decreases-reaches : goal.decreases-reaches
decreases-reaches l = length l.rest
