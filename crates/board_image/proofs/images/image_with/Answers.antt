-- What was copied is the checkpoint of the board's guest, which is that of the parts.
use Rattle.std.proofs.Common.{sym, subst}
use Rattle.guest_parts.specs.Guest.{Guest}
use Rattle.clone_state.specs.Image.{IsCopyOf}
use Rattle.board_image.proofs.Copied.{copy_is}
use Rattle.board_image.proofs.images.image_with.Goals as goal

pub of_parts-requires-clause-whole : goal.of_parts-requires-clause-whole
of_parts-requires-clause-whole g c =
    let p = c.parts_of_board-copied.result in
    let board = c.args.board.now in
    subst (λ (x : Guest). IsCopyOf x p) (sym c.can_be_rebuilt.ensures.guest)
    (copy_is board.guest p board.versions c.stands.ensures.board c.parts_of_board-copied.ensures.shown c.parts_of_board-copied.ensures.windows)
