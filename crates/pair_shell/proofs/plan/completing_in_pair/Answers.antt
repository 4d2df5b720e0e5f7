-- What is outstanding at the primary of a pair goes on.
use Rattle.std.proofs.Common.{ap, ◌∙◌, subst}
use Rattle.ft_world.specs.Standing.{machine_of}
use Rattle.pair_protocol.specs.Refusals.{refusal}
use Rattle.pair_shell.specs.First.{IsDueOrOut}
use Rattle.pair_shell.proofs.PairEvents.{goes_in_pair, primary_machine}
use Rattle.pair_shell.proofs.plan.completing_in_pair.Goals as goal

pub returns-in_default-clause-allowed : goal.returns-in_default-clause-allowed
returns-in_default-clause-allowed g c = λ course h backup generation pair responds left.
    let M = machine_of g.B.Lockstep.machine course in
    let s = g.B.Lockstep.state c.in_ok-guest.guest.now in
    let id = c.in_ok-id.id in
    let same = primary_machine M course.copying course.world c.args.node backup generation pair s (c.in_ok-guest.ensures course h) in
    ap (refusal M course.copying course.world) c.going_on.ensures.is
    ∙ goes_in_pair M course.copying h.machine.lawful h.machine.copies responds course.world h.reached c.args.node backup
    generation pair
    (c.may_complete.ensures course h backup generation pair c.if-not-may_complete.false) left id c.stage_of.result (subst (λ t. IsDueOrOut M t id) same c.in_ok-id.ensures)
    (c.stage_of.ensures course h) c.in_default.not-Held
