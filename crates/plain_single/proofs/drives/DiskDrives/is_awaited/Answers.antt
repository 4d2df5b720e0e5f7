-- A write has a number exactly if its place has it.
use Rattle.std.proofs.Common.{◌==◌, ◌∙◌, ap, sym}
use Rattle.std.specs.List.{list_any}
use Rattle.plain_single.specs.Awaited.{place_with}
use Rattle.plain_single.proofs.Writes.{list_any-map}
use Rattle.plain_single.proofs.drives.DiskDrives.is_awaited.Goals as goal

pub returns : goal.returns
returns c =
    c.has_write.ensures
    ∙ ap (list_any (λ write. write.number == c.args.number)) c.as_slice.ensures.value
    ∙ sym (list_any-map (λ place. place.number == c.args.number) place_with c.args.self.now.awaited.items)
