-- None of the ways so far touches the cross.
use Rattle.std.proofs.Common.{◌≡◌, length}
use Rattle.std.specs.List.{list_any}
use Rattle.sequence_diagram.specs.Losses.{touches}
use Rattle.sequence_diagram.proofs.ways.touches_any.Given as goal

abbrev pub invariant-ways : goal.invariant-ways
invariant-ways l = list_any (touches l.at) l.rest ≡ list_any (touches l.at) l.ways

abbrev pub decreases-ways : goal.decreases-ways
decreases-ways l = length l.rest
