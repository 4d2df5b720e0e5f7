-- A write goes to a sector exactly if its place is that sector.
use Rattle.std.proofs.Common.{◌∙◌, ap, sym}
use Rattle.std.specs.List.{list_any}
use Rattle.disk_dcdd.specs.Sector.{is_at}
use Rattle.plain_single.specs.Awaited.{place_with}
use Rattle.plain_single.proofs.Writes.{list_any-map}
use Rattle.plain_single.proofs.drives.DiskDrives.is_written.Goals as goal

pub returns : goal.returns
returns c =
    c.has_write_at.ensures
    ∙ ap (list_any (λ write. is_at c.args.drive c.args.track c.args.sector (place_with write))) c.as_slice.ensures.value
    ∙ sym (list_any-map (is_at c.args.drive c.args.track c.args.sector) place_with c.args.self.now.awaited.items)
