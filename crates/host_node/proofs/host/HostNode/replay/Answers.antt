use Rattle.std.proofs.Common.{refl}
use Rattle.host_node.proofs.Stepping.{replays}
use Rattle.host_node.proofs.host.HostNode.replay.Goals as goal

pub returns : goal.returns
returns g c =
    replays g.B.Lockstep.state g.B.Lockstep.machine g.B.Copies.copied _ _ _ _ c.args.turns c.replay.result c.in-Node.is refl (record { number = refl; drives = refl; rings = refl })
    refl c.replay.ensures.unchanged c.replay.ensures.answer
