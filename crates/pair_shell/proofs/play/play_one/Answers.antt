-- The tape was empty before the event.
use Rattle.std.proofs.Common.{refl}
use Rattle.pair_shell.proofs.Playing.{plays_nothing}
use Rattle.pair_shell.proofs.play.play_one.Goals as goal

pub returns-clause-happened : goal.returns-clause-happened
returns-clause-happened g c =
    c.play_next.ensures.happened c.args.world.now
    (plays_nothing g.B.Lockstep.state g.B.Copies.copied g.B.Lockstep.machine c.args.world.now c.args.world.now
    c.clear.new.self.items c.clear.ensures.items refl)
