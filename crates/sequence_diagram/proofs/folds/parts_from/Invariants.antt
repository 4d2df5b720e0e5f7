-- The events so far are of the line, and their parts were noted.
use Rattle.sequence_diagram.specs.Folds.{HasNotedPart, no_parts}
use Rattle.sequence_diagram.proofs.Folding.{SoFar}
use Rattle.sequence_diagram.proofs.folds.parts_from.Given as goal

abbrev pub invariant-loop-place : goal.invariant-loop-place
invariant-loop-place l = SoFar (HasNotedPart l.moments) no_parts l.moments l.lines.of.items l.first l.place l.parts
