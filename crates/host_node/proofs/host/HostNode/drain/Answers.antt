use Rattle.std.proofs.Common.{refl}
use Rattle.host_node.proofs.Stepping.{drains}
use Rattle.host_node.proofs.host.HostNode.drain.Goals as goal

pub returns : goal.returns
returns g c =
    drains g.B.Lockstep.state g.B.Lockstep.machine g.B.Copies.copied _ _ _ _ c.args.turns c.drain.result c.in-Node.is refl (record { number = refl; drives = refl; rings = refl })
    refl c.drain.ensures.unchanged c.drain.ensures.answer
