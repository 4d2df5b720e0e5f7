-- What was sent last arrives.
use Rattle.std.proofs.Common.{◌≡◌, Some, None, subst, sym, ◌∙◌}
use Rattle.ft_world.specs.Standing.{machine_of}
use Rattle.pair_shell.specs.Arriving.{ArrivesAs, ComesNext, HasJustSent, MayReceive}
use Rattle.pair_protocol.proofs.Traces.Lists.{same_some}
use Rattle.pair_shell.proofs.Arrivals.{arrives, some_none}
use Rattle.pair_shell.proofs.Delivered.{delivered}
use Rattle.pair_shell.proofs.Each.{each_some, each_three, some_and}
use Rattle.pair_shell.specs.Serves.{MayCome}
use Rattle.pair_shell.proofs.plan.RestPlan.arriving.Goals as goal

pub returns-clause-outward : goal.returns-clause-outward
returns-clause-outward g c =
    each_some (ArrivesAs c.in_ok-sent.sent.now c.in_ok-message.message) _ c.arrival.result
    (λ event is. λ course h here.
    arrives (machine_of g.B.Lockstep.machine course) course.copying course.world c.in_ok-sent.sent.now c.in_ok-message.message
    event is here (c.in_ok-sent.ensures course h))
    c.arrival.ensures.arrives

pub returns-clause-delivered : goal.returns-clause-delivered
returns-clause-delivered g c = λ m is.
    let number : c.in_ok-message.message ≡ m = same_some c.in_ok-message.message m c.args.self.now.sent c.in_ok-message.was is in
    each_three (MayCome c.args.serving) (λ event. MayReceive c.args.serving)
    (ArrivesAs c.in_ok-sent.sent.now c.in_ok-message.message) _ c.arrival.result
    (λ event comes receives arrives. λ course h serves sent.
    delivered (machine_of g.B.Lockstep.machine course) course.copying h.machine.lawful h.machine.copies course.world h.reached
    c.args.serving serves receives c.in_ok-message.message c.in_ok-sent.sent.now event comes arrives
    (c.in_ok-sent.ensures course h)
    (subst (HasJustSent (machine_of g.B.Lockstep.machine course) course.copying course.world) (sym number) sent))
    c.arrival.ensures.kind c.arrival.ensures.received c.arrival.ensures.arrives

pub returns-in_err-message-clause-comes : goal.returns-in_err-message-clause-comes
returns-in_err-message-clause-comes g c = λ m is. absurd (some_none (sym c.in_err-message.was ∙ is))

pub returns-in_err-sent-clause-comes : goal.returns-in_err-sent-clause-comes
returns-in_err-sent-clause-comes g c = λ m is. λ course h.
    let number : c.in_ok-message.message ≡ m = same_some c.in_ok-message.message m c.args.self.now.sent c.in_ok-message.was is in
    subst (ComesNext course.world c.args.serving m) (sym c.from_residual-in_err-sent.ensures)
    (subst (λ k. ComesNext course.world c.args.serving k None) number
    (record { found = None; shown = c.in_err-sent.ensures course h; comes = tt }))

pub returns-clause-comes : goal.returns-clause-comes
returns-clause-comes g c = λ m is. λ course h.
    let number : c.in_ok-message.message ≡ m = same_some c.in_ok-message.message m c.args.self.now.sent c.in_ok-message.was is in
    subst (λ k. ComesNext course.world c.args.serving k c.arrival.result) number
    (record {
      found = Some c.in_ok-sent.sent.now;
      shown = c.in_ok-sent.ensures course h;
      comes = λ taken. some_and (ArrivesAs c.in_ok-sent.sent.now c.in_ok-message.message) c.arrival.result
          (c.arrival.ensures.taken taken) c.arrival.ensures.arrives;
    })
