-- The disk serves a write, or a read.
use Rattle.std.proofs.Common.{subst, sym}
use Rattle.pair_rule.specs.declared.payload.DiskAnswer.TheVariants as answer
use Rattle.pair_threads.specs.Stores.{Serves}
use Rattle.pair_threads.proofs.Serving.{read, written}
use Rattle.pair_threads.proofs.disk.answer.Goals as goal

pub returns-in_ok-put-in-Write-clause-serves : goal.returns-in_ok-put-in-Write-clause-serves
returns-in_ok-put-in-Write-clause-serves g c =
    subst (λ r. Serves (g.D.SectorStore.records c.args.disk.now) r (answer.Written c.in-Write.write.number)
    (g.D.SectorStore.records c.put.new.self)) (sym c.in-Write.is)
    (written (g.D.SectorStore.records c.args.disk.now) (g.D.SectorStore.records c.put.new.self) c.in-Write.write
    c.in_ok-put-in-Write.ensures.there c.in_ok-put-in-Write.ensures.ok)

pub returns-in_ok-get-in-Read-clause-serves : goal.returns-in_ok-get-in-Read-clause-serves
returns-in_ok-get-in-Read-clause-serves g c =
    subst (λ r. Serves (g.D.SectorStore.records c.args.disk.now) r (answer.Read c.in_ok-get-in-Read.field-0)
    (g.D.SectorStore.records c.get.new.self)) (sym c.in-Read.is)
    (read (g.D.SectorStore.records c.args.disk.now) (g.D.SectorStore.records c.get.new.self) c.in-Read.address
    c.in_ok-get-in-Read.field-0 c.in_ok-get-in-Read.ensures.ok c.in_ok-get-in-Read.ensures.unchanged)
