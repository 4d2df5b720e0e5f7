-- One event more has brought a newer write, or none.
use Rattle.sequence_diagram.proofs.Keeping.{newest_more}
use Rattle.sequence_diagram.proofs.kept.newest_before.Goals as goal

pub loop-before-preserved : goal.loop-before-preserved
loop-before-preserved c =
    newest_more c.args.moments.now c.loop-before.before c.args.address c.loop-before.newest c.newer-newest.result c.arrival_at.result
    c.loop-before.invariant c.arrival_at.ensures c.newer-newest.ensures.least c.newer-newest.ensures.counted c.newer-newest.ensures.one
