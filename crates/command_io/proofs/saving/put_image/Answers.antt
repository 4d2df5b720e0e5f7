-- One sector more.
use Rattle.std.proofs.Common.{arith}
use Rattle.command_io.proofs.Places.{no_place, place_more, place_there}
use Rattle.command_io.proofs.saving.put_image.Goals as goal

pub loop-place-init : goal.loop-place-init
loop-place-init g c = (
  no_place c.args.images.now.items (g.D.SectorStore.records c.args.disk.now) c.args.drive,
  λ place none. absurd (let n = none in omega (arith, n)),
)

pub loop-place-preserved : goal.loop-place-preserved
loop-place-preserved g c =
    let records = g.D.SectorStore.records in
    let first = records c.args.disk.now in
    let mid = records c.loop-place.disk in
    let so_far = c.loop-place.invariant.0 in
    let put = c.in_ok-put_sector.ensures in (
      place_more first mid (records c.put_sector.new.disk) c.args.drive c.loop-place.place c.args.images.now.items
          c.loop-place.images.items c.put_sector.new.images.items c.address_at.result put.added put.longer c.address_at.ensures
          put.unchanged so_far,
      place_there first mid c.args.drive c.loop-place.place c.address_at.result c.address_at.ensures so_far.same put.there
          c.loop-place.invariant.1,
    )
