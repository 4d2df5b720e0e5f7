-- A step keeps the draft one of the board, whatever it answers; a refused one does what it does in lockstep.
use Rattle.std.proofs.Common.{Err, refl}
use Rattle.guest_board.specs.Stepping.{exec_answer}
use Rattle.guest_board.proofs.InLockstep.{executes_as}
use Rattle.board_image.proofs.KeepingUp.{after_step, answer_by_name}
use Rattle.board_image.proofs.WrittenPages.{stale_after_step}
use Rattle.board_image.proofs.drafted_board.lockstep.step_with_draft.Goals as goal

pub returns-in-Ok-Ran-None-clause-keeps_up : goal.returns-in-Ok-Ran-None-clause-keeps_up
returns-in-Ok-Ran-None-clause-keeps_up g c =
    after_step c.args.draft.now c.args.board.now c.exec.new.self c.exec.result c.exec.ensures.guest c.exec.ensures.versions
    c.stands.ensures.board c.stands.ensures.versions c.requires

pub returns-in-Ok-Ran-Some-clause-keeps_up : goal.returns-in-Ok-Ran-Some-clause-keeps_up
returns-in-Ok-Ran-Some-clause-keeps_up g c =
    after_step c.args.draft.now c.args.board.now c.exec.new.self c.exec.result c.exec.ensures.guest c.exec.ensures.versions
    c.stands.ensures.board c.stands.ensures.versions c.requires

pub returns-in-Ok-Accepted-clause-keeps_up : goal.returns-in-Ok-Accepted-clause-keeps_up
returns-in-Ok-Accepted-clause-keeps_up g c =
    after_step c.args.draft.now c.args.board.now c.exec.new.self c.exec.result c.exec.ensures.guest c.exec.ensures.versions
    c.stands.ensures.board c.stands.ensures.versions c.requires

pub returns-in-Err-clause-answer : goal.returns-in-Err-clause-answer
returns-in-Err-clause-answer g c =
    executes_as c.args.board.now.guest c.exec.new.self.guest (Err c.in-Err.fault) (Err c.in-Err.fault) refl
    (answer_by_name (exec_answer c.args.board.now.guest) (Err c.in-Err.fault) c.in-Err.ensures.answer) c.in-Err.ensures.guest
    tt

pub returns-in-Ok-Ran-None-clause-pages : goal.returns-in-Ok-Ran-None-clause-pages
returns-in-Ok-Ran-None-clause-pages g c =
    stale_after_step c.args.draft.now c.args.board.now c.exec.new.self c.in-Ok-Ran-None.ensures.versions c.stands.ensures.board
    c.stands.ensures.versions c.has_room.ensures c.requires

pub returns-in-Ok-Ran-Some-clause-pages : goal.returns-in-Ok-Ran-Some-clause-pages
returns-in-Ok-Ran-Some-clause-pages g c =
    stale_after_step c.args.draft.now c.args.board.now c.exec.new.self c.in-Ok-Ran-Some.ensures.versions c.stands.ensures.board
    c.stands.ensures.versions c.has_room.ensures c.requires

pub returns-in-Ok-Accepted-clause-pages : goal.returns-in-Ok-Accepted-clause-pages
returns-in-Ok-Accepted-clause-pages g c =
    stale_after_step c.args.draft.now c.args.board.now c.exec.new.self c.in-Ok-Accepted.ensures.versions c.stands.ensures.board
    c.stands.ensures.versions c.has_room.ensures c.requires
