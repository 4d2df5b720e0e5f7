-- The line says where the events have led.
use Rattle.std.proofs.Common.{◌∙◌, ap}
use Rattle.pair_shell.specs.declared.plan.RestPlan.{RestPlan}
use Rattle.pair_protocol.specs.Settled.{highest}
use Rattle.pair_shell.proofs.RestLines.{led_among, says_where}
use Rattle.pair_shell.proofs.notes.Notes.rest.Goals as goal

pub returns-clause-led : goal.returns-clause-led
returns-clause-led g c =
    says_where c.print_rest.result _ c.in_ok-rested.rested c.lead.new.plan.arrived _ _ _ _ c.print_rest.ensures.told
    (λ course shows. led_among g.B.Lockstep.machine course.world _ _ _ _ c.lead.new.plan.arrived (highest course.world.nodes)
    c.in_ok-rested.rested
    (c.in_ok-rested.ensures.same.0 ∙ ap (λ (p : RestPlan). p.hosts) c.new-plan.ensures ∙ c.from-hosts.ensures)
    (c.in_ok-rested.ensures.same.1 ∙ ap (λ (p : RestPlan). p.parts) c.new-plan.ensures ∙ c.parts_of-parts.ensures)
    (c.in_ok-rested.ensures.led course shows))
