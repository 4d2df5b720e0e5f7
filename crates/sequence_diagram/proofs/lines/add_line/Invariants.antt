-- The events so far have their line.
use Rattle.std.proofs.Common.{◌≡◌, ◌++◌, replicate}
use Rattle.sequence_diagram.proofs.lines.add_line.Given as goal

abbrev pub invariant-loop-event : goal.invariant-loop-event
invariant-loop-event l = l.of.items ≡ l.fn.of.items ++ replicate l.event l.line
