-- The events of one more line have happened.
use Rattle.std.proofs.Common.{subst}
use Rattle.std.proofs.lemmas.List.{take_all}
use Rattle.command_script.specs.Running.{HaveHappened}
use Rattle.command_script.proofs.Lines.{happened_none, happened_on}
use Rattle.command_script.proofs.session.run_silently.Goals as goal

pub loop-line-init : goal.loop-line-init
loop-line-init g c = happened_none g.B.Lockstep.state g.B.Copies.copied g.B.Lockstep.machine c.args.world.now

pub loop-line-preserved : goal.loop-line-preserved
loop-line-preserved g c =
    happened_on g.B.Lockstep.state g.B.Copies.copied g.B.Lockstep.machine c.args.world.now c.loop-line.world
    c.pass.new.world c.args.lines.now c.loop-line.line-index _ c.loop-line-test.true c.loop-line.invariant c.pass.ensures

pub returns : goal.returns
returns g c = λ course shows.
    subst
    (λ l. HaveHappened g.B.Lockstep.state g.B.Copies.copied g.B.Lockstep.machine course l c.args.world.now c.loop-line.world)
    (take_all c.loop-line.line-index c.args.lines.now c.loop-line-test.false) (c.loop-line.invariant course shows)
