-- The line of the place became another, or there is none.
use Rattle.std.proofs.Common.{inl, inr, refl}
use Rattle.outside_switch.specs.Lines.{IsClosed}
use Rattle.outside_switch.proofs.Lines.{one_at, past_at}
use Rattle.outside_switch.proofs.places.close.Goals as goal

pub returns-then-place-lines : goal.returns-then-place-lines
returns-then-place-lines c =
    inl (one_at c.args.lines.now c.from-place.result c.args.place c.index-lines-place.result c.from-place.ensures
    c.if-place-lines.true IsClosed c.close.new.self c.close.ensures)

pub returns-else-place-lines : goal.returns-else-place-lines
returns-else-place-lines c =
    inr (past_at c.args.lines.now c.from-place.result c.args.place c.from-place.ensures c.if-place-lines.false, refl)
