use Rattle.std.proofs.Common.{refl}
use Rattle.host_node.proofs.Taking.{fetched}
use Rattle.host_node.proofs.host.HostNode.take_wanted.Goals as goal

pub returns-in-Ok : goal.returns-in-Ok
returns-in-Ok g c =
    fetched g.B.Lockstep.state g.B.Lockstep.machine g.B.Copies.copied _ _ _ _ c.args.read.now c.in-Node.is refl (record { number = refl; drives = refl; rings = refl }) refl refl c.requires c.in-Ok.ensures.answer
