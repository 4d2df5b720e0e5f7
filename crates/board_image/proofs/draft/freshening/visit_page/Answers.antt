-- A page that is not stale is passed; a stale one is counted if no more may be copied, otherwise copied.
use Rattle.std.proofs.Common.{sym, ◌∙◌, arith}
use Rattle.board_image.proofs.Freshening.{copies_page, passes, waits}
use Rattle.board_image.proofs.draft.freshening.visit_page.Goals as goal

pub returns-then-not-is_stale : goal.returns-then-not-is_stale
returns-then-not-is_stale g c = λ k old has.
    passes k c.args.board.now old c.args.page
    (record { bytes = c.args.bytes.now.items; copied = c.args.copied.now.items }) c.args.left.now c.args.stale.now has
    (sym c.is_stale.ensures ∙ c.if-not-is_stale.true)

pub returns-then-left-eq0 : goal.returns-then-left-eq0
returns-then-left-eq0 g c = λ k old has.
    waits k c.args.board.now old c.args.page
    (record { bytes = c.args.bytes.now.items; copied = c.args.copied.now.items }) c.args.left.now c.args.stale.now has
    (sym c.is_stale.ensures ∙ c.if-not-is_stale.false) (omega (arith, c.if-left-eq0.true))

pub returns : goal.returns
returns g c = λ k old has.
    copies_page k c.args.board.now old c.args.page
    (record { bytes = c.args.bytes.now.items; copied = c.args.copied.now.items }) c.args.left.now c.args.stale.now
    c.copy_page.new.bytes.items c.copy_page.new.copied.items has (sym c.is_stale.ensures ∙ c.if-not-is_stale.false)
    (omega (arith, c.if-left-eq0.false)) (omega (arith, c.ranges.page.fits)) c.copy_page.ensures.length
    c.copy_page.ensures.bytes c.copy_page.ensures.copied
