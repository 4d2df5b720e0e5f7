-- The line of the place has the report.
use Rattle.std.proofs.Common.{inl, refl}
use Rattle.outside_switch.specs.Lines.{IsReported}
use Rattle.outside_switch.proofs.Lines.{line_marked, one_at, same_at}
use Rattle.outside_switch.proofs.places.keep.Goals as goal

pub returns-clause-kept : goal.returns-clause-kept
returns-clause-kept c =
    inl (one_at c.args.lines.now c.from-place.result c.args.place c.index-lines-place.result c.from-place.ensures
    c.if-place-lines.false (IsReported c.args.report.now) c.keep.new.self c.keep.ensures)

pub returns-clause-goes : goal.returns-clause-goes
returns-clause-goes c =
    same_at c.args.lines.now c.from-place.result c.args.place c.index-lines-place.result c.from-place.ensures
    c.if-place-lines.false c.keep.new.self (line_marked _ c.keep.new.self _ c.keep.ensures refl refl refl)
