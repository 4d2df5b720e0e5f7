-- The line is that of the refusal.
use Rattle.std.proofs.Common.{rules}
use Rattle.shell_picture.proofs.Telling.{tells_held, tells_uncovered}
use Rattle.shell_picture.proofs.held_up.print_if.Goals as goal

pub returns-in_ok-around-in_default : goal.returns-in_ok-around-in_default
returns-in_ok-around-in_default c =
    tells_held c.args.fault c.args.met c.args.book.now c.waiting-waiting.result c.number-number.result _ _ c.waiting-waiting.ensures
    (search rules) c.number-number.ensures (search rules) c.in_ok-around-in_default.ensures.shown

pub returns-in_ok-around-in-NotCovered : goal.returns-in_ok-around-in-NotCovered
returns-in_ok-around-in-NotCovered c =
    tells_uncovered c.args.fault c.args.met c.args.book.now c.waiting-waiting.result c.number-number.result c.args.printed.now
    c.around.new.self c.in-NotCovered.is c.waiting-waiting.ensures (search rules) c.number-number.ensures
    c.in_ok-around-in-NotCovered.ensures.shown
