use Rattle.std.proofs.Common.{refl, ◌∙◌}
use Rattle.host_node.proofs.Asked.{loses}
use Rattle.host_node.proofs.host.HostNode.lose.Goals as goal

pub returns : goal.returns
returns g c =
    loses g.B.Lockstep.state g.B.Lockstep.machine g.B.Copies.copied _ _ _ _ c.args.generation c.in-Node.is refl (record { number = refl; drives = refl; rings = refl }) refl
    c.requires (λ C drives x is. c.generation.ensures.value C drives x is ∙ c.if-generation.false) c.in_ok-stop.ensures.answer
