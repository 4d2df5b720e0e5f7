-- All hosts are told.
use Rattle.std.proofs.Common.{[]}
use Rattle.outside_switch.specs.Meets.{seen}
use Rattle.outside_switch.proofs.Acting.{tick_met}
use Rattle.outside_switch.proofs.Going.{acts}
use Rattle.outside_switch.proofs.switch.Switch.tick.Goals as goal

pub returns-clause-goes : goal.returns-clause-goes
returns-clause-goes g c =
    let old = seen c.args.self.now in
    let new = seen c.post_all.new.self in
    acts old new [] (tick_met c.args.number c.args.speed old new c.post_all.ensures.devices c.post_all.ensures.posts)
