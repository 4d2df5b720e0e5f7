-- The line is that of the last message, or of none.
use Rattle.shell_picture.proofs.Telling.{tells_last, tells_none}
use Rattle.shell_picture.proofs.answers.print_last.Goals as goal

pub returns : goal.returns
returns c =
    tells_last c.messages-messages.result _ c.args.printed.now c.line-2.new.self c.messages-messages.ensures c.if-messages-eq0.false c.in_ok-line-2.ensures.shown

pub returns-then-messages-eq0 : goal.returns-then-messages-eq0
returns-then-messages-eq0 c =
    tells_none c.messages-messages.result _ c.args.printed.now c.line.new.self c.messages-messages.ensures c.if-messages-eq0.true c.in_ok-line.ensures.shown
