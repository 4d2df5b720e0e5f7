use Rattle.std.proofs.Common.{refl, ◌∙◌}
use Rattle.host_node.proofs.Asked.{never_lost, wins}
use Rattle.host_node.proofs.host.HostNode.win.Goals as goal

pub returns-in-Ok : goal.returns-in-Ok
returns-in-Ok g c =
    wins g.B.Lockstep.state g.B.Lockstep.machine g.B.Copies.copied _ _ _ _ c.role.result c.args.generation c.from.result _ _ c.in-Ok.field-0 c.from.ensures
    (c.if-not-may_ask.ensures refl) c.in-Node.is refl
    (record { number = refl; drives = refl; rings = c.forget_keys.ensures.rings }) c.forget_keys.ensures.came c.forget_keys.ensures.gone c.requires c.new-arbiter.ensures c.role.ensures
    (λ C drives x is. c.generation.ensures.value C drives x is ∙ c.if-generation.false) c.in-Ok.ensures.answer

pub returns-in-Err-Lost : goal.returns-in-Err-Lost
returns-in-Err-Lost g c =
    never_lost g.B.Lockstep.state g.B.Lockstep.machine g.B.Copies.copied _ _ _ _ c.role.result c.from.result _ _ c.in-Err-Lost.field-0 c.in-Err-Lost.field-0-is
    (c.if-not-may_ask.ensures refl) c.in-Node.is refl (record { number = refl; drives = refl; rings = refl }) refl
    c.new-arbiter.ensures c.role.ensures c.in-Err-Lost.ensures.answer
