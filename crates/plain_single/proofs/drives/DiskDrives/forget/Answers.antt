-- The places of the writes that are kept are the places that are kept.
use Rattle.std.proofs.Common.{not, ◌==◌, ◌∙◌, ap, map}
use Rattle.plain_single.specs.Awaited.{place_with}
use Rattle.plain_single.specs.Drives.{drives_of}
use Rattle.plain_single.proofs.Writes.{map-filter}
use Rattle.plain_single.proofs.drives.DiskDrives.forget.Goals as goal

pub returns-clause-drives : goal.returns-clause-drives
returns-clause-drives c =
    ap (λ places. record (drives_of c.args.self.now) { outstanding = places })
    (ap (map place_with) c.remove_write.ensures
    ∙ map-filter (λ place. not (place.number == c.args.number)) place_with c.args.self.now.awaited.items)
