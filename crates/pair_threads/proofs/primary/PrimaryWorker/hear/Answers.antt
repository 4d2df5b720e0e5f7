-- What the disk answers is one more of its answers.
use Rattle.std.proofs.Common.{◌≡◌, Some, ap, length, refl, subst, sym}
use Rattle.std.specs.Prelude.{◌-◌, slice_get}
use Rattle.pair_rule.specs.declared.view.Core.{Core}
use Rattle.pair_rule.specs.declared.view.PrimaryView.{PrimaryView}
use Rattle.pair_threads.proofs.Views.{came_last, heard_one, hears, with_answer, works_on}
use Rattle.pair_threads.proofs.primary.PrimaryWorker.hear.Goals as goal

pub returns-in-Some-clause-works : goal.returns-in-Some-clause-works
returns-in-Some-clause-works g c =
    let M = g.B.Lockstep.machine in
    let old = c.args.self.now in
    let view = old.seat.core.known.primary in
    let a = c.in-Some.answer in
    works_on g.B.Lockstep.state M old c.answer.new.self (with_answer view a) c.answer.ensures.same
    (heard_one old.seat.core c.answer.new.self.core a c.in-Some.ensures.taken) refl
    (λ boot taken accepted leads. hears g.B.Lockstep.state M boot view taken accepted old.guest leads
    g.met.B.Lockstep.counts g.met.B.Lockstep.operations a) (λ boot leads kept. kept)

pub returns-in-None-clause-works : goal.returns-in-None-clause-works
returns-in-None-clause-works g c =
    let old = c.args.self.now in
    works_on g.B.Lockstep.state g.B.Lockstep.machine old c.answer.new.self old.seat.core.known.primary
    c.answer.ensures.same (ap (λ (k : Core). k.known.primary) c.in-None.ensures.taken.0.1) refl
    (λ boot taken accepted leads. leads) (λ boot leads kept. kept)

pub invariant_of-self-clause-answered : goal.invariant_of-self-clause-answered
invariant_of-self-clause-answered g c = λ b same.
    let old = c.args.self.now in
    let a = c.in-Some.answer in
    subst (λ (v : PrimaryView). slice_get v.answers (length v.answers - 1) ≡ Some b)
    (sym (heard_one old.seat.core c.answer.new.self.core a c.in-Some.ensures.taken))
    (came_last old.seat.core.known.primary.answers a b same)
