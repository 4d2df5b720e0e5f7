-- What a step of the board does to its guest is what it does in lockstep.
use Rattle.std.proofs.Common.{None, Ok, Err, refl}
use Rattle.guest_board.proofs.InLockstep.{executes_as}
use Rattle.guest_board.proofs.board.lockstep.BoardLockstep.step.Goals as goal

pub returns-in-Ok-Ran-clause-answer : goal.returns-in-Ok-Ran-clause-answer
returns-in-Ok-Ran-clause-answer g c =
    executes_as c.args.self.now.guest c.make_step.new.self.guest (Ok c.in-Ok-Ran.field-0) (Ok c.in-Ok-Ran.name)
    (rw c.in-Ok-Ran.field-0-is refl) c.in-Ok-Ran.ensures.answer c.in-Ok-Ran.ensures.guest c.in-Ok-Ran.ensures.step

pub returns-in-Ok-Accepted-clause-answer : goal.returns-in-Ok-Accepted-clause-answer
returns-in-Ok-Accepted-clause-answer g c =
    executes_as c.args.self.now.guest c.make_step.new.self.guest (Ok c.in-Ok-Accepted.field-0) (Ok None)
    (rw c.in-Ok-Accepted.field-0-is refl) c.in-Ok-Accepted.ensures.answer c.in-Ok-Accepted.ensures.guest
    c.in-Ok-Accepted.ensures.step

pub returns-in-Err-clause-answer : goal.returns-in-Err-clause-answer
returns-in-Err-clause-answer g c =
    executes_as c.args.self.now.guest c.make_step.new.self.guest (Err c.in-Err.fault) (Err c.in-Err.fault) refl
    c.in-Err.ensures.answer c.in-Err.ensures.guest tt
