-- The check refuses the sector.
use Rattle.guest_lockstep.specs.declared.input.Input.TheVariants as input
use Rattle.pair_protocol.specs.Effects.{Took}
use Rattle.pair_protocol.specs.Refusals.{get_reply_refusal}
use Rattle.ft_node.specs.Calls.{Never}
use Rattle.ft_node.specs.AnyNode.{IsNode}
use Rattle.ft_node.proofs.PassedChecks.{refused}
use Rattle.ft_node.proofs.node.Node.under.Goals as goal

pub returns-in_err-check_under-clause-answer : goal.returns-in_err-check_under-clause-answer
returns-in_err-check_under-clause-answer g c = λ C drives x is.
    let M = g.B.Lockstep.machine in
    let a = c.args.address in
    refused (get_reply_refusal M a c.args.number c.args.bytes x) Never
    (λ done. Took M (input.Sector a.drive a.sector c.args.number c.args.bytes)) x c.from_residual.result
    (IsNode g.B.Lockstep.state M C drives c.args.self.now) c.in_err-check_under.field-0.0 c.from_residual.ensures.1
    (c.in_err-check_under.ensures.answer C drives x is) is
