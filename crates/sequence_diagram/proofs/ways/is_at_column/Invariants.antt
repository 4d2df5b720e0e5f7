-- None of the columns so far is too near.
use Rattle.std.proofs.Common.{◌≡◌, length}
use Rattle.std.specs.List.{list_any}
use Rattle.sequence_diagram.specs.Losses.{is_near}
use Rattle.sequence_diagram.proofs.ways.is_at_column.Given as goal

abbrev pub invariant-places : goal.invariant-places
invariant-places l = list_any (is_near l.plan.columns.places.items l.x) l.rest
    ≡ list_any (is_near l.plan.columns.places.items l.x) l.plan.columns.places.items

abbrev pub decreases-places : goal.decreases-places
decreases-places l = length l.rest
