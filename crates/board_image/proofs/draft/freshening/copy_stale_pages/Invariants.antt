use Rattle.board_image.specs.Drafts.{HasCopied}
use Rattle.board_image.proofs.draft.freshening.copy_stale_pages.Given as goal

-- of the pages so far the lowest stale ones were copied
abbrev pub invariant-loop-page : goal.invariant-loop-page
invariant-loop-page g l =
    HasCopied l.most l.board (record { bytes = l.initial.bytes.items; copied = l.initial.copied.items }) l.page
    (record { bytes = l.bytes.items; copied = l.copied.items }) l.left l.stale
