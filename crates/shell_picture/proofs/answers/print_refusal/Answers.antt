-- The line is that of the refusal's number.
use Rattle.shell_picture.proofs.Telling.{tells_refused}
use Rattle.shell_picture.proofs.answers.print_refusal.Goals as goal

pub returns-clause-told : goal.returns-clause-told
returns-clause-told c = tells_refused c.args.fault c.number.result _ _ c.number.ensures c.in_ok-around.ensures.shown
