-- Before the first page nothing is copied.
use Rattle.board_image.proofs.Freshening.{begins}
use Rattle.board_image.proofs.draft.freshening.copy_stale_pages.Goals as goal

pub loop-page-init : goal.loop-page-init
loop-page-init g c =
    begins c.args.most c.args.board.now (record { bytes = c.args.bytes.now.items; copied = c.args.copied.now.items }) c.requires
