use Rattle.std.proofs.Common.{refl, arith}
use Rattle.host_node.proofs.Taking.{acceptance}
use Rattle.host_node.proofs.host.HostNode.take_acceptance.Goals as goal

pub returns-in-Ok-clause-goes : goal.returns-in-Ok-clause-goes
returns-in-Ok-clause-goes g c =
    acceptance g.B.Lockstep.state g.B.Lockstep.machine g.B.Copies.copied _ _ _ _ c.args.port c.in-Some.number c.args.count c.in-Node.is refl (record { number = refl; drives = refl; rings = refl }) refl refl c.requires
    (let some = c.if-number-eq0.false in omega (arith, some)) (let few = c.if-number-count.false in omega (arith, few))
    c.in-Ok.ensures.answer
