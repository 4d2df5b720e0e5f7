-- The sectors so far.
use Rattle.std.specs.Prelude.{◌++◌, ◌+◌, ◌*◌, length}
use Rattle.command_io.specs.Saving.{HasPlaces, image_to}
use Rattle.command_io.proofs.Places.{AreSaved}
use Rattle.command_io.proofs.saving.put_image.Given as goal

abbrev pub invariant-loop-place : goal.invariant-loop-place
invariant-loop-place g l =
    let first = g.D.SectorStore.records l.fn.disk in
    AreSaved l.images.items (l.fn.images.items ++ image_to first l.drive l.place) (length l.fn.images.items + 137 * l.place)
    (g.D.SectorStore.records l.disk) first × HasPlaces first l.drive l.place
