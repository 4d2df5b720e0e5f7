-- The entry that waits is the next one of the run, so the append keeps its promise.
use Rattle.pair_threads.proofs.Views.{appends, stays}
use Rattle.pair_threads.proofs.primary.PrimaryWorker.append.Goals as goal

pub returns-in-Ok-clause-works : goal.returns-in-Ok-clause-works
returns-in-Ok-clause-works g c = appends g.B.Lockstep.state g.B.Lockstep.machine g.met.B.Lockstep.counts c.args.self.now c.args.entry
    c.append.new.self c.append.ensures.same c.in-Ok.ensures.appended c.requires.waits

pub returns-in-Err-LogFull-clause-works : goal.returns-in-Err-LogFull-clause-works
returns-in-Err-LogFull-clause-works g c = stays g.B.Lockstep.state g.B.Lockstep.machine c.args.self.now c.append.new.self
    c.in-Err-LogFull.ensures.refused.1
