-- The turn that ended it is the last of its turns.
use Rattle.std.proofs.Common.{suc}
use Rattle.pair_threads.proofs.worker.serve.Goals as goal

pub returns-in-Ok-Ends-clause-turns : goal.returns-in-Ok-Ends-clause-turns
returns-in-Ok-Ends-clause-turns g c =
    let had = c.in-Ok-Ends.ensures.turned in
    (suc c.loop-number.number, (c.loop-number.worker, had.0, c.loop-number.invariant.3, had.2))
