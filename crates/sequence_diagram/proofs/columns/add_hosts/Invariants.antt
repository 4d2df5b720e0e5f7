-- The hosts of the events so far were added, and those of the others are to be.
use Rattle.std.proofs.Common.{◌≡◌, ◌++◌, length}
use Rattle.sequence_diagram.specs.Columns.{hosts_in}
use Rattle.sequence_diagram.proofs.columns.add_hosts.Given as goal

abbrev pub invariant-moments : goal.invariant-moments
invariant-moments l = l.places.items ++ hosts_in l.rest ≡ l.initial.places.items ++ hosts_in l.moments

abbrev pub decreases-moments : goal.decreases-moments
decreases-moments l = length l.rest
