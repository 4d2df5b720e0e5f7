-- Steps that no entry shows, with no frame.
use Rattle.std.proofs.Common.{refl}
use Rattle.host_node.proofs.Stepping.{runs_ahead}
use Rattle.host_node.proofs.host.HostNode.run_ahead.Goals as goal

pub returns : goal.returns
returns g c =
    runs_ahead g.B.Lockstep.state g.B.Lockstep.machine g.B.Copies.copied _ _ _ _ c.args.lead c.args.turns c.run_ahead.result
    g.met.B.Lockstep.counts c.in-Node.is refl (record { number = refl; drives = refl; rings = refl })
    refl c.run_ahead.ensures.unchanged c.run_ahead.ensures.answer
