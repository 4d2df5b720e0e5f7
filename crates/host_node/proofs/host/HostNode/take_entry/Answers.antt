use Rattle.std.proofs.Common.{refl}
use Rattle.host_node.proofs.Packets.{on_log}
use Rattle.host_node.proofs.host.HostNode.take_entry.Goals as goal

pub returns-in-Ok : goal.returns-in-Ok
returns-in-Ok g c =
    on_log g.B.Lockstep.state g.B.Lockstep.machine g.B.Copies.copied _ _ _ _ c.args.host c.args.bytes.now c.in-Ok.field-0 c.in-Node.is refl (record { number = refl; drives = refl; rings = refl }) refl c.requires
    (λ i. (c.type_inv.bytes i).fits) c.in-Ok.ensures.answer
