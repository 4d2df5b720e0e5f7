-- An input writes no page.
use Rattle.board_image.proofs.WrittenPages.{stale_kept}
use Rattle.board_image.proofs.drafted_board.lockstep.take_with_draft.Goals as goal

pub returns-clause-pages : goal.returns-clause-pages
returns-clause-pages g c = stale_kept c.args.draft.now c.args.board.now c.take.new.self c.take.ensures.versions
