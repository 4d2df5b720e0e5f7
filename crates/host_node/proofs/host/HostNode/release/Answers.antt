use Rattle.std.proofs.Common.{Ok, refl, subst, ◌∙◌}
use Rattle.ft_node.specs.Calls as calls
use Rattle.host_node.proofs.Going.{said_since}
use Rattle.host_node.proofs.Sent.{byte_out, write_out}
use Rattle.host_node.proofs.host.HostNode.release.Goals as goal

pub returns-in_ok-say-in-Byte : goal.returns-in_ok-say-in-Byte
returns-in_ok-say-in-Byte g c =
    byte_out g.B.Lockstep.state g.B.Lockstep.machine g.B.Copies.copied _ _ _ c.args.id c.in-Byte.port c.in-Byte.number
    c.in-Byte.byte (c.if-not-has_device.ensures refl) c.in-Node.is refl (record { number = refl; drives = refl; rings = c.in_ok-say-in-Byte.ensures.rings ∙ c.has_room.ensures.rings })
    (c.in_ok-say-in-Byte.ensures.came ∙ c.has_room.ensures.came)
    (said_since _ _ _ _ c.has_room.ensures.gone c.in_ok-say-in-Byte.ensures.gone)
    (λ C drives x is. subst (λ o. calls.Releases g.B.Lockstep.machine c.args.id x (Ok o)) c.in-Byte.is
    (c.in_ok-port.ensures C drives x is))

pub returns-in_ok-say-in-Write : goal.returns-in_ok-say-in-Write
returns-in_ok-say-in-Write g c =
    write_out g.B.Lockstep.state g.B.Lockstep.machine g.B.Copies.copied _ _ _ c.args.id c.in-Write.write
    (c.if-not-has_device.ensures refl) c.in-Node.is refl (record { number = refl; drives = refl; rings = c.in_ok-say-in-Write.ensures.rings ∙ c.has_room.ensures.rings })
    (c.in_ok-say-in-Write.ensures.came ∙ c.has_room.ensures.came)
    (said_since _ _ _ _ c.has_room.ensures.gone c.in_ok-say-in-Write.ensures.gone)
    (λ C drives x is. subst (λ o. calls.Releases g.B.Lockstep.machine c.args.id x (Ok o)) c.in-Write.is
    (c.in_ok-port.ensures C drives x is))
