-- The events of one more line were told.
use Rattle.std.proofs.Common.{subst}
use Rattle.std.proofs.lemmas.List.{take_all}
use Rattle.command_script.specs.Telling.{HaveTold}
use Rattle.command_script.proofs.Telling.{told_none, told_on}
use Rattle.command_script.proofs.picture.tell_each.Goals as goal

pub loop-line-init : goal.loop-line-init
loop-line-init g c =
    told_none g.B.Lockstep.state g.B.Copies.copied g.B.Lockstep.machine c.args.world.now c.new-moments.result.items
    c.new-moments.ensures.items

pub loop-line-preserved : goal.loop-line-preserved
loop-line-preserved g c =
    told_on g.B.Lockstep.state g.B.Copies.copied g.B.Lockstep.machine c.args.world.now c.loop-line.world c.tell.new.world
    c.args.lines.now c.loop-line.line-index _ c.loop-line.moments.items c.tell.new.moments.items c.loop-line-test.true
    c.loop-line.invariant c.in_ok-tell.ensures

pub returns : goal.returns
returns g c = λ course shows.
    subst
    (λ l. HaveTold g.B.Lockstep.state g.B.Copies.copied g.B.Lockstep.machine course l c.loop-line.moments.items
    c.args.world.now c.loop-line.world)
    (take_all c.loop-line.line-index c.args.lines.now c.loop-line-test.false) (c.loop-line.invariant course shows)
