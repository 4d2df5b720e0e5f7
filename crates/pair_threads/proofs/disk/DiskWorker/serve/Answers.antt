-- The disk's worker answers the request that it took.
use Rattle.pair_threads.proofs.Serving.{replied}
use Rattle.pair_threads.proofs.disk.DiskWorker.serve.Goals as goal

pub reply-requires-clause-answers : goal.reply-requires-clause-answers
reply-requires-clause-answers g c =
    (c.in-Ok.ensures.serves c.requires.store.0 c.args.self.now.seat.core.known.disk
    (c.args.self.now.taken c.args.request c.requires.has) c.requires.store.1.kept).0

pub returns-clause-store : goal.returns-clause-store
returns-clause-store g c = λ boots store.
    replied boots (g.D.SectorStore.records c.args.self.now.disk) (g.D.SectorStore.records c.answer.new.disk) c.args.request
    c.in-Ok.answer c.args.self.now.seat.core c.reply.new.self.core c.in-Ok.ensures.serves
    (c.args.self.now.taken c.args.request c.requires.has) c.reply.ensures.replied store
