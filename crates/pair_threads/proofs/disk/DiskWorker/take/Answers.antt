-- A request is taken, or none is there.
use Rattle.pair_threads.proofs.Serving.{took}
use Rattle.pair_threads.proofs.disk.DiskWorker.take.Goals as goal

pub returns-in-Some-clause-store : goal.returns-in-Some-clause-store
returns-in-Some-clause-store g c = λ boots store.
    took boots (g.D.SectorStore.records c.args.self.now.disk) c.take_request-self.result c.args.self.now.seat.core
    c.take_request-self.new.self.core c.take_request-self.ensures.taken store

pub returns-in-None-clause-store : goal.returns-in-None-clause-store
returns-in-None-clause-store g c = λ boots store.
    took boots (g.D.SectorStore.records c.args.self.now.disk) c.take_request-self.result c.args.self.now.seat.core
    c.take_request-self.new.self.core c.take_request-self.ensures.taken store
