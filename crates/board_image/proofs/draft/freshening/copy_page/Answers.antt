-- The bytes of the page take the place of those that were there.
use Rattle.std.proofs.Common.{◌+◌, ◌-◌, ◌*◌, ◌∙◌, arith}
use Rattle.board_image.proofs.Freshening.{page_refilled}
use Rattle.board_image.proofs.draft.freshening.copy_page.Goals as goal

pub returns-clause-bytes : goal.returns-clause-bytes
returns-clause-bytes g c = λ address.
    page_refilled c.args.bytes.now.items c.deref_mut.result.now c.args.board.now.guest.memory c.copy_from_slice.new.self
    c.args.page (c.args.page * 256 + 256 - c.args.page * 256) c.args.bytes.now.len address c.deref_mut.ensures.value
    (omega (arith, c.args.bytes.now.ok.0)) (omega arith) (c.copy_from_slice.ensures.after ∙ c.page.ensures.bytes)
    c.requires.room.bytes c.requires.memory (omega (arith, c.ranges.page.fits))
