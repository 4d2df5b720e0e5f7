use Rattle.std.proofs.Common.{◌≡◌, drop}
use Rattle.output_rule.specs.Notes as table
use Rattle.output_rule.proofs.notes.after_at.Given as goal

abbrev pub invariant-loop-note : goal.invariant-loop-note
invariant-loop-note l = table.after_at l.notes l.index ≡ table.after_at (drop l.note-index l.notes) l.index
