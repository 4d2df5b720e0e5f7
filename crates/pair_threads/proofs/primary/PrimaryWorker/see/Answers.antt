-- What is acknowledged is seen.
use Rattle.std.proofs.Common.{ap, refl}
use Rattle.pair_rule.specs.declared.view.Core.{Core}
use Rattle.pair_threads.proofs.Views.{sees, works_on}
use Rattle.pair_threads.proofs.primary.PrimaryWorker.see.Goals as goal

pub returns-clause-works : goal.returns-clause-works
returns-clause-works g c =
    let M = g.B.Lockstep.machine in
    let old = c.args.self.now in
    let view = old.seat.core.known.primary in
    works_on g.B.Lockstep.state M old c.see-self.new.self (record view { seen = c.see-self.result })
    c.see-self.ensures.same (ap (λ (k : Core). k.known.primary) c.see-self.ensures.view) refl
    (λ boot taken accepted leads. sees g.B.Lockstep.state M boot view taken accepted old.guest leads
    g.met.B.Lockstep.counts g.met.B.Lockstep.operations c.see-self.result c.see-self.ensures.later.0)
    (λ boot leads kept. kept)
