use Rattle.std.proofs.Common.{refl, ◌∙◌}
use Rattle.host_node.proofs.Asked.{asks}
use Rattle.host_node.proofs.Going.{said_since}
use Rattle.host_node.proofs.host.HostNode.suspect.Goals as goal

pub returns : goal.returns
returns g c =
    asks g.B.Lockstep.state g.B.Lockstep.machine g.B.Copies.copied _ _ _ c.role.result c.generation-generation.result (c.if-not-may_ask.ensures refl) c.in-Node.is refl (record { number = refl; drives = refl; rings = c.in_ok-say.ensures.rings ∙ c.has_room.ensures.rings })
    (c.in_ok-say.ensures.came ∙ c.has_room.ensures.came)
    (said_since _ _ _ _ c.has_room.ensures.gone c.in_ok-say.ensures.gone) c.role.ensures c.generation-generation.ensures.value
