use Rattle.std.proofs.Common.{◌≡◌, drop}
use Rattle.output_rule.specs.Notes as table
use Rattle.output_rule.proofs.notes.note_of.Given as goal

abbrev pub invariant-loop-note : goal.invariant-loop-note
invariant-loop-note l = table.note_in l.notes l.id ≡ table.note_in (drop l.note-index l.notes) l.id
