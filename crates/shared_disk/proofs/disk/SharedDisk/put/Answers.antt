-- A write whose number is not greater leaves the records unchanged, which is what the definition says of it.
use Rattle.std.proofs.Common.{◌≡◌, arith}
use Rattle.shared_disk.specs.Arrivals.{after_put}
use Rattle.shared_disk.proofs.Arriving.{put_goes_on}
use Rattle.shared_disk.proofs.disk.SharedDisk.put.Goals as goal

pub returns-then-write-found-clause-shared : goal.returns-then-write-found-clause-shared
returns-then-write-found-clause-shared g c =
    let old = g.D.SectorStore.records c.args.self.now in
    let new = g.D.SectorStore.records c.read.new.self in
    let as_defined : new ≡ after_put old c.args.write.now = grind arith in
    put_goes_on old c.args.write.now new as_defined
