-- One drive more.
use Rattle.std.proofs.Common.{refl}
use Rattle.command_io.proofs.Places.{drive_more, drive_there}
use Rattle.command_io.proofs.saving.images_of.Goals as goal

pub loop-drive-preserved : goal.loop-drive-preserved
loop-drive-preserved g c =
    let records = g.D.SectorStore.records in
    let first = records c.args.disk.now in
    let mid = records c.loop-drive.disk in
    let so_far = c.loop-drive.invariant.0 in
    let put = c.in_ok-put_image.ensures in (
      drive_more first mid (records c.put_image.new.disk) c.args.drives.now c.loop-drive.drive-index _ _
          c.loop-drive.images.items c.put_image.new.images.items put.added put.longer refl put.unchanged c.loop-drive-test.true
          so_far,
      drive_there first mid c.args.drives.now c.loop-drive.drive-index _ _ refl so_far.same c.loop-drive-test.true put.there
          c.loop-drive.invariant.1,
    )
