-- One event more of the line.
use Rattle.std.proofs.Common.{rules, ◌≡◌}
use Rattle.sequence_diagram.specs.Folds.{NotesKey, no_keys}
use Rattle.sequence_diagram.specs.Lines.{line_at}
use Rattle.sequence_diagram.proofs.Folding.{first_of_all, one_more}
use Rattle.sequence_diagram.proofs.folds.keys_from.Goals as goal

pub loop-place-init : goal.loop-place-init
loop-place-init c = first_of_all (NotesKey c.args.moments.now) no_keys c.args.moments.now c.args.lines.now.of.items c.args.first

pub loop-place-preserved : goal.loop-place-preserved
loop-place-preserved c =
    let same : line_at c.args.lines.now.of.items c.loop-place.place ≡ line_at c.args.lines.now.of.items c.args.first = search rules in
    one_more (NotesKey c.args.moments.now) no_keys c.args.moments.now c.args.lines.now.of.items c.args.first c.loop-place.place
    c.loop-place.keys c.note.new.self c.loop-place.invariant same c.note.ensures
