use Rattle.std.proofs.Common.{refl}
use Rattle.host_node.proofs.Taking.{done}
use Rattle.host_node.proofs.host.HostNode.take_written.Goals as goal

pub returns-in-Ok : goal.returns-in-Ok
returns-in-Ok g c =
    done g.B.Lockstep.state g.B.Lockstep.machine g.B.Copies.copied _ _ _ _ c.args.number c.in-Node.is refl (record { number = refl; drives = refl; rings = refl }) refl refl c.requires c.in-Ok.ensures.answer
