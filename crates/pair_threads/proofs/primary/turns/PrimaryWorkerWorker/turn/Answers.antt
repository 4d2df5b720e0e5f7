-- A turn of a primary's worker: it leads as before, or asks who goes on alone.
use Rattle.std.proofs.Common.{ap, inr}
use Rattle.std.proofs.lemmas.Result.{on_ok_weaker}
use Rattle.pair_rule.specs.declared.view.Core.{Core}
use Rattle.pair_threads.proofs.Views.{came_on, keeps_alone, leads_alone, some_at}
use Rattle.pair_threads.proofs.primary.turns.PrimaryWorkerWorker.turn.Goals as goal

pub returns-in-Some-clause-came : goal.returns-in-Some-clause-came
returns-in-Some-clause-came g c = λ first came.
    on_ok_weaker c.append.result (came_on g.B.Lockstep.state g.B.Lockstep.machine first c.args.self.now c.append.new.self came)
    c.append.ensures.works

pub returns-in-None-clause-came : goal.returns-in-None-clause-came
returns-in-None-clause-came g c = λ first came.
    on_ok_weaker c.work.result (came_on g.B.Lockstep.state g.B.Lockstep.machine first c.args.self.now c.work.new.self came)
    c.work.ensures.works

pub returns-then-asks_at-clause-came : goal.returns-then-asks_at-clause-came
returns-then-asks_at-clause-came g c = λ first came.
    let old = c.args.self.now in
    let is = ap (λ (k : Core). k.known.primary) c.contest.ensures.view.3 in
    let may = some_at old.plan.contests_at c.args.number (c.asks_at.ensures.0 c.if-asks_at.true) in (
      came.0,
      came.1,
      came.2,
      inr may,
      λ boot leads. leads_alone g.B.Lockstep.state g.B.Lockstep.machine g.met.B.Lockstep.counts
          g.met.B.Lockstep.operations old c.contest.new.self _ boot is (came.4 boot leads),
      λ boot leads kept. keeps_alone g.B.Lockstep.state g.B.Lockstep.machine g.met.B.Lockstep.counts
          g.met.B.Lockstep.operations old c.contest.new.self _ boot is (came.5 boot leads kept),
    )
