-- The writes so far each go to the places so far; the first that goes elsewhere, or a difference in length, decides.
use Rattle.std.proofs.Common.{sym, ◌∙◌}
use Rattle.guest_parts.proofs.Places.{go_to-more, go_to-not_at, go_to-lengths}
use Rattle.guest_parts.proofs.parts.standing.go_to.Goals as goal

pub returns-then-writes-places : goal.returns-then-writes-places
returns-then-writes-places c = sym (go_to-lengths c.args.writes.now c.args.places.now c.if-writes-places.true)

pub returns-then-not-goes_to : goal.returns-then-not-goes_to
returns-then-not-goes_to c =
    sym (go_to-not_at c.args.writes.now c.args.places.now c.loop-index.index _ _ c.loop-index-test.true
    c.if-writes-places.false (sym c.goes_to.ensures ∙ c.if-not-goes_to.true))

pub loop-index-preserved : goal.loop-index-preserved
loop-index-preserved c =
    go_to-more c.args.writes.now c.args.places.now c.loop-index.index _ _ c.loop-index-test.true
    c.if-writes-places.false c.loop-index.invariant (sym c.goes_to.ensures ∙ c.if-not-goes_to.false)
