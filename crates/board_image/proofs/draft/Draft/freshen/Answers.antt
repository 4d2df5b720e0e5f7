-- The stale pages are fewer by those that were copied.
use Rattle.std.proofs.Common.{sym, ◌∙◌, arith}
use Rattle.board_image.proofs.StalePages.{left_below}
use Rattle.board_image.proofs.draft.Draft.freshen.Goals as goal

pub returns-clause-stale : goal.returns-clause-stale
returns-clause-stale g c =
    c.copy_stale_pages.ensures.fewer ∙ sym (left_below _ _ _ _ c.copy_stale_pages.ensures.freshened 256 (omega arith))
