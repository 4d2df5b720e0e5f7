-- The events so far are of the line, and their keys were noted.
use Rattle.sequence_diagram.specs.Folds.{NotesKey, no_keys}
use Rattle.sequence_diagram.proofs.Folding.{SoFar}
use Rattle.sequence_diagram.proofs.folds.keys_from.Given as goal

abbrev pub invariant-loop-place : goal.invariant-loop-place
invariant-loop-place l = SoFar (NotesKey l.moments) no_keys l.moments l.lines.of.items l.first l.place l.keys
