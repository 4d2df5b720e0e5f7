-- The draft is one of the board after each of the steps.
use Rattle.board_image.proofs.WrittenPages.{stays}
use Rattle.board_image.proofs.drafted_board.lockstep.quiet_steps_with_draft.Goals as goal

pub returns-clause-pages : goal.returns-clause-pages
returns-clause-pages g c =
    (stays c.args.draft.now c.args.board.now c.make_quiet_steps.new.self c.make_quiet_steps.result c.has_room.ensures
    c.stands.ensures.board c.stands.ensures.versions c.requires c.make_quiet_steps.ensures.steps c.make_quiet_steps.ensures.versions).stale

pub returns-clause-keeps_up : goal.returns-clause-keeps_up
returns-clause-keeps_up g c =
    (stays c.args.draft.now c.args.board.now c.make_quiet_steps.new.self c.make_quiet_steps.result c.has_room.ensures
    c.stands.ensures.board c.stands.ensures.versions c.requires c.make_quiet_steps.ensures.steps c.make_quiet_steps.ensures.versions).keeps_up
