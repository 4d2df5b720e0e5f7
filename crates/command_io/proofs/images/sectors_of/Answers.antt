-- One place more.
use Rattle.command_io.proofs.Sectors.{place_more}
use Rattle.command_io.proofs.images.sectors_of.Goals as goal

pub loop-place-preserved : goal.loop-place-preserved
loop-place-preserved c =
    place_more c.args.drives.now c.args.images.now c.loop-place.place c.loop-place.sectors.items c.push.new.self.items
    c.sector_at.result c.in_ok-push.ensures.items c.sector_at.ensures c.loop-place.invariant
