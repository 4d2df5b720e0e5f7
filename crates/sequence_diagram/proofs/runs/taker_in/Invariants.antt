-- The keys so far are of the terminal, and none of them was taken.
use Rattle.std.proofs.Common.{◌≡◌, length}
use Rattle.sequence_diagram.specs.Runs.{taker_in}
use Rattle.sequence_diagram.proofs.runs.taker_in.Given as goal

abbrev pub invariant-keys : goal.invariant-keys
invariant-keys l = taker_in l.port l.rest ≡ taker_in l.port l.moments

abbrev pub decreases-keys : goal.decreases-keys
decreases-keys l = length l.rest
