-- The images of the drives so far.
use Rattle.std.specs.Prelude.{◌*◌, All, take}
use Rattle.std.specs.List.{flat_map}
use Rattle.command_io.specs.Saving.{HasDrive, image_of}
use Rattle.command_io.proofs.Places.{AreSaved}
use Rattle.command_io.proofs.saving.images_of.Given as goal

abbrev pub invariant-loop-drive : goal.invariant-loop-drive
invariant-loop-drive g l =
    let first = g.D.SectorStore.records l.fn.disk in
    AreSaved l.images.items (flat_map (image_of first) (take l.drive-index l.drives)) (337568 * l.drive-index)
    (g.D.SectorStore.records l.disk) first × All (HasDrive first) (take l.drive-index l.drives)
