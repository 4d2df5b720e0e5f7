-- The body came from the line of the place.
use Rattle.std.proofs.Common.{subst, sym}
use Rattle.outside_switch.specs.Lines.{NoneWaits}
use Rattle.outside_switch.proofs.Lines.{heard_at, lines_same, past_at}
use Rattle.outside_switch.proofs.places.next.Goals as goal

pub returns : goal.returns
returns c =
    heard_at c.args.lines.now c.from-place.result c.args.place c.index-lines-place.result c.from-place.ensures
    c.if-place-lines.false c.next.result c.next.new.self c.next.ensures

pub returns-then-place-lines : goal.returns-then-place-lines
returns-then-place-lines c = (
  lines_same c.args.lines.now,
  subst (λ o. NoneWaits o)
      (sym (past_at c.args.lines.now c.from-place.result c.args.place c.from-place.ensures c.if-place-lines.true)) tt,
)
