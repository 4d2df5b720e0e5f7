-- What is outstanding at a live node goes on.
use Rattle.std.proofs.Common.{ap, ◌∙◌, subst}
use Rattle.ft_world.specs.Standing.{machine_of}
use Rattle.pair_protocol.specs.Refusals.{refusal}
use Rattle.pair_shell.specs.First.{IsDueOrOut}
use Rattle.pair_shell.proofs.Allowed.{goes, live_machine}
use Rattle.pair_shell.proofs.Endings.{still_first, still_none}
use Rattle.pair_shell.proofs.plan.completing.Goals as goal

pub returns-clause-allowed : goal.returns-clause-allowed
returns-clause-allowed g c = λ course h generation live responds.
    let M = machine_of g.B.Lockstep.machine course in
    let s = g.B.Lockstep.state c.in_ok-guest.guest.now in
    let id = c.in_ok-id.id in
    let same = live_machine course.world c.args.node generation s live (c.in_ok-guest.ensures course h) in
    ap (refusal M course.copying course.world) c.going_on.ensures.is
    ∙ goes M course.copying h.machine.lawful h.machine.copies responds course.world h.reached c.args.node generation live id
    c.stage_of.result (subst (λ t. IsDueOrOut M t id) same c.in_ok-id.ensures) (c.stage_of.ensures course h)

pub returns-in_err-guest-clause-rests : goal.returns-in_err-guest-clause-rests
returns-in_err-guest-clause-rests g c = λ none course h.
    still_none g.B.Lockstep.machine course.world c.args.node (c.in_err-guest.ensures course h)

pub returns-in_err-id-clause-rests : goal.returns-in_err-id-clause-rests
returns-in_err-id-clause-rests g c = λ none course h.
    still_first g.B.Lockstep.machine course.world c.args.node (g.B.Lockstep.state c.in_ok-guest.guest.now)
    (c.in_ok-guest.ensures course h) c.in_err-id.ensures
