-- The place takes part in none of the events so far.
use Rattle.std.proofs.Common.{◌≡◌, length}
use Rattle.std.specs.List.{list_any}
use Rattle.sequence_diagram.specs.Columns.{takes_part}
use Rattle.sequence_diagram.proofs.columns.is_used.Given as goal

abbrev pub invariant-moments : goal.invariant-moments
invariant-moments l = list_any (takes_part l.place) l.rest ≡ list_any (takes_part l.place) l.moments

abbrev pub decreases-moments : goal.decreases-moments
decreases-moments l = length l.rest
