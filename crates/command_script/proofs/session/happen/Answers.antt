-- The event's answer, as the world gives it.
use Rattle.std.proofs.Common.{Ok, Err, refl}
use Rattle.command_script.proofs.session.happen.Goals as goal

pub returns-in-Ok : goal.returns-in-Ok
returns-in-Ok g c = λ course shows.
    record { answer = Ok c.in-Ok.reply; applies = c.in-Ok.ensures.row course shows; counted = c.in-Ok.ensures.counted; told = refl }

pub returns-in-Err : goal.returns-in-Err
returns-in-Err g c = λ course shows.
    record { answer = Err c.in-Err.fault; applies = c.in-Err.ensures.row course shows; counted = c.in-Err.ensures.counted; told = refl }
