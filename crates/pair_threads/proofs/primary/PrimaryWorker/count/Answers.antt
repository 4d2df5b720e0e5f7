-- What is counted is seen.
use Rattle.pair_threads.proofs.Views.{counts_on}
use Rattle.pair_threads.proofs.primary.PrimaryWorker.count.Goals as goal

pub returns-then-port-eq0-clause-works : goal.returns-then-port-eq0-clause-works
returns-then-port-eq0-clause-works g c =
    counts_on g.B.Lockstep.state g.B.Lockstep.machine g.met.B.Lockstep.counts g.met.B.Lockstep.operations c.args.self.now
    c.counted-counted.new.self c.counted-counted.ensures.same c.args.port c.counted-counted.result
    c.counted-counted.ensures.view

pub returns-else-port-eq0-clause-works : goal.returns-else-port-eq0-clause-works
returns-else-port-eq0-clause-works g c =
    counts_on g.B.Lockstep.state g.B.Lockstep.machine g.met.B.Lockstep.counts g.met.B.Lockstep.operations c.args.self.now
    c.counted-counted.new.self c.counted-counted.ensures.same c.args.port c.counted-counted.result
    c.counted-counted.ensures.view
