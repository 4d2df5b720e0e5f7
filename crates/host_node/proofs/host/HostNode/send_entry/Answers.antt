use Rattle.std.proofs.Common.{refl, subst, ◌∙◌}
use Rattle.host_frames.specs.Frames.{Packet}
use Rattle.host_node.proofs.Going.{said_since}
use Rattle.host_node.proofs.Sent.{entry}
use Rattle.host_node.specs.Mail.{HasSaid}
use Rattle.host_node.proofs.host.HostNode.send_entry.Goals as goal

pub returns : goal.returns
returns g c =
    entry g.B.Lockstep.state g.B.Lockstep.machine g.B.Copies.copied _ _ _ c.args.self.now.peer c.args.index c.in-Ok.bytes c.in-Node.is refl (record { number = refl; drives = refl; rings = c.in_ok-say.ensures.rings ∙ c.has_room.ensures.rings })
    (c.in_ok-say.ensures.came ∙ c.has_room.ensures.came)
    (said_since _ _ _ _ c.has_room.ensures.gone
    (subst (λ l. HasSaid (Packet c.args.self.now.peer l) c.has_room.new.self.gone c.say.new.self.gone) c.deref.ensures.value
    c.in_ok-say.ensures.gone))
    c.in-Ok.ensures
