-- One event more of the line.
use Rattle.std.proofs.Common.{rules, ◌≡◌}
use Rattle.sequence_diagram.specs.Folds.{HasNotedPart, no_parts}
use Rattle.sequence_diagram.specs.Lines.{line_at}
use Rattle.sequence_diagram.proofs.Folding.{first_of_all, one_more}
use Rattle.sequence_diagram.proofs.folds.parts_from.Goals as goal

pub loop-place-init : goal.loop-place-init
loop-place-init c = first_of_all (HasNotedPart c.args.moments.now) no_parts c.args.moments.now c.args.lines.now.of.items c.args.first

pub loop-place-preserved : goal.loop-place-preserved
loop-place-preserved c =
    let same : line_at c.args.lines.now.of.items c.loop-place.place ≡ line_at c.args.lines.now.of.items c.args.first = search rules in
    one_more (HasNotedPart c.args.moments.now) no_parts c.args.moments.now c.args.lines.now.of.items c.args.first c.loop-place.place
    c.loop-place.parts c.note.new.self c.loop-place.invariant same c.note.ensures
