use Rattle.std.proofs.Common.{refl, arith, ◌∙◌}
use Rattle.host_node.proofs.Begun.{begins}
use Rattle.host_node.proofs.Going.{said_since}
use Rattle.host_node.proofs.host.HostNode.begin.Goals as goal

pub returns : goal.returns
returns g c =
    begins g.B.Lockstep.state g.B.Lockstep.machine g.B.Copies.copied _ _ _ _ c.args.generation c.args.host c.generation-before.result c.count.result c.in_ok-begin.field-0
    c.in-Node.is refl (record { number = refl; drives = refl; rings = c.say_bytes.ensures.rings ∙ c.has_room.ensures.rings }) (c.say_bytes.ensures.came ∙ c.has_room.ensures.came)
    (said_since _ _ _ _ c.has_room.ensures.gone
    (record { bytes = c.in_ok-bytes.bytes.items; spells = c.in_ok-bytes.ensures.ok; gone = c.say_bytes.ensures.gone }))
    c.requires (let e = c.if-before-generation.false in omega (arith, e))
    c.in-Alone.ensures c.generation-before.ensures.value c.count.ensures
    (λ C drives x copies taken is. c.in_ok-begin.ensures.answer C drives x copies taken is)
