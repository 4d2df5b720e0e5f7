-- What the copied parts say is the checkpoint of their guest.
use Rattle.std.proofs.Common.{refl, ◌≡◌, [], subst, arith}
use Rattle.std.specs.Prelude.{IfOk, slice_index_or}
use Rattle.guest_parts.specs.Guest.{Guest}
use Rattle.guest_parts.specs.Parts.{guest_of_parts}
use Rattle.clone_state.specs.Checkpoint.{Checkpoint, checkpoint_of}
use Rattle.clone_state.specs.Image.{part_bytes}
use Rattle.clone_state.specs.Parts.{parts_of}
use Rattle.clone_state.proofs.PartBytes.{of_the_image, past_the_image}
use Rattle.clone_state.proofs.PartLaws.{parts_counted}
use Rattle.clone_state.proofs.image.Image.part.Goals as goal

pub returns-then-index-parts : goal.returns-then-index-parts
returns-then-index-parts c =
    let image = c.args.self.now in
    let counted = parts_counted (checkpoint_of (guest_of_parts image.copied)) image.copied.devices.disk.attached refl in
    past_the_image (guest_of_parts image.copied) image.generation c.args.index (omega arith)

pub returns : goal.returns
returns c =
    let image = c.args.self.now in
    let guest : Guest = guest_of_parts image.copied in
    let counted = parts_counted (checkpoint_of guest) image.copied.devices.disk.attached refl in
    of_the_image guest image.generation c.args.index c.known_part.result (omega arith)
    (subst (λ (x : Checkpoint). IfOk c.known_part.result (λ bytes. bytes.items
    ≡ part_bytes image.generation c.args.index (slice_index_or (parts_of x) c.args.index []))) image.whole.shown
    c.known_part.ensures.ok)
    c.known_part.ensures.full
