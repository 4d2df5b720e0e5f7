-- A request is served, or the next one is taken; neither ends the worker.
use Rattle.pair_threads.proofs.Serving.{goes_on}
use Rattle.pair_threads.proofs.disk.DiskWorkerWorker.turn.Goals as goal

pub returns-in-Some-clause-came : goal.returns-in-Some-clause-came
returns-in-Some-clause-came g c = λ first came. (
  λ boots store. c.serve.ensures.store boots (came.0 boots store),
  λ address there. c.serve.ensures.there address (came.1 address there),
)

pub returns-in-None-clause-came : goal.returns-in-None-clause-came
returns-in-None-clause-came g c = λ first came. (
  λ boots store. c.take.ensures.store boots (came.0 boots store),
  λ address there. c.take.ensures.there address (came.1 address there),
)

pub returns-in-Some-clause-leaves : goal.returns-in-Some-clause-leaves
returns-in-Some-clause-leaves g c = goes_on c.serve.result _ _
    (c.requires.ready.0, c.serve.ensures.store c.requires.ready.0 c.requires.ready.1) tt

pub returns-in-None-clause-leaves : goal.returns-in-None-clause-leaves
returns-in-None-clause-leaves g c = goes_on c.take.result _ _
    (c.requires.ready.0, c.take.ensures.store c.requires.ready.0 c.requires.ready.1) tt
