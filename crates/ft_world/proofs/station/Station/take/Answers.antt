-- The node refuses the input, or there is no room for it, or it is appended to the station's inputs and the node takes it.
use Rattle.std.proofs.Common.{None, Ok, Result, refl, subst, sym}
use Rattle.i8080_words.specs.declared.refusal.Fault.{Fault}
use Rattle.pair_protocol.specs.Effects.{Took}
use Rattle.ft_node.specs.Calls.{Call, Ever}
use Rattle.ft_node.proofs.PassedChecks.{passed, refused}
use Rattle.ft_node.specs.AnyNode.{MayAccept}
use Rattle.ft_world.specs.Offers.{input_of, offer_refusal}
use Rattle.ft_world.specs.Shows.{IsStation}
use Rattle.ft_world.proofs.Inputs.{accepts, no_room}
use Rattle.ft_world.proofs.station.Station.take.Goals as goal

pub returns-in_err-check-clause-answer : goal.returns-in_err-check-clause-answer
returns-in_err-check-clause-answer g c = λ C drives x is.
    let M = g.B.Lockstep.machine in
    refused (offer_refusal M c.args.offer.now x) Ever (λ done. Took M (input_of c.args.offer.now)) x c.from_residual.result
    (IsStation g.B.Lockstep.state M C drives c.args.self.now) c.in_err-check.field-0.0 c.from_residual.ensures.1
    (c.in_err-check.ensures.answer C drives x is.node) is

pub returns-in_err-push-clause-answer : goal.returns-in_err-push-clause-answer
returns-in_err-push-clause-answer g c = λ C drives x is.
    let M = g.B.Lockstep.machine in
    let Is = IsStation g.B.Lockstep.state M C drives (record c.args.self.now { inputs = c.push.new.self }) in
    passed (offer_refusal M c.args.offer.now x) Ever (λ done. Took M (input_of c.args.offer.now)) x
    c.from_residual-in_err-push.result Is c.in_ok-check.field-0 (c.in_ok-check.ensures.answer C drives x is.node)
    (no_room (λ done. Took M (input_of c.args.offer.now)) x c.from_residual-in_err-push.result Is c.in_err-push.field-0.0
    c.from_residual-in_err-push.ensures.1 c.in_err-push.ensures.full
    (subst (λ l. IsStation g.B.Lockstep.state M C drives (record c.args.self.now { inputs = l }) x)
    (sym c.in_err-push.ensures.unchanged) is))

pub returns-clause-answer : goal.returns-clause-answer
returns-clause-answer g c = λ C drives x is.
    let M = g.B.Lockstep.machine in
    let taken : Result (Unit {0}) Fault = Ok tt in
    let new = record c.args.self.now { node = c.accept.new.self; inputs = c.push.new.self } in
    passed (offer_refusal M c.args.offer.now x) Ever (λ done. Took M (input_of c.args.offer.now)) x taken
    (IsStation g.B.Lockstep.state M C drives new) c.in_ok-check.field-0 (c.in_ok-check.ensures.answer C drives x is.node)
    (subst (λ i. Call None Ever (λ done. Took M i) x taken (IsStation g.B.Lockstep.state M C drives new)) c.input-input.ensures
    (accepts g.B.Lockstep.state M C drives c.input-input.result c.args.self.now new x g.met.B.Lockstep.counts
    (subst (λ i. MayAccept g.B.Lockstep.state M c.args.self.now.node i) (sym c.input-input.ensures) c.in_ok-check.ensures.may) is
    (c.accept.ensures.node C drives x is.node) c.in_ok-push.ensures.ok refl))
