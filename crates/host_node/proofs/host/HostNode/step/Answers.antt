use Rattle.std.proofs.Common.{refl}
use Rattle.host_node.proofs.Stepping.{steps}
use Rattle.host_node.proofs.host.HostNode.step.Goals as goal

pub returns : goal.returns
returns g c =
    steps g.B.Lockstep.state g.B.Lockstep.machine g.B.Copies.copied _ _ _ _ c.args.turns c.step.result c.in-Node.is refl (record { number = refl; drives = refl; rings = refl })
    refl c.step.ensures.unchanged c.step.ensures.answer
