-- The line is that of the sum of the tape.
use Rattle.std.proofs.Common.{rules}
use Rattle.shell_picture.proofs.Telling.{tells_done, tells_nothing, tells_refusal}
use Rattle.shell_picture.proofs.answers.print_sum.Goals as goal

pub returns-in_ok-line-in-None-clause-told : goal.returns-in_ok-line-in-None-clause-told
returns-in_ok-line-in-None-clause-told c =
    tells_nothing c.args.tape.now c.sum_of-happened.result c.args.printed.now c.line.new.self c.sum_of-happened.ensures c.in-None.is c.in_ok-line-in-None.ensures.shown

pub returns-in_ok-line-in-Some-Ok-clause-told : goal.returns-in_ok-line-in-Some-Ok-clause-told
returns-in_ok-line-in-Some-Ok-clause-told c =
    tells_done c.args.tape.now c.sum_of-happened.result c.in-Some-Ok.reply c.args.printed.now c.line-in-Some-Ok.new.self c.sum_of-happened.ensures (search rules)
    c.in_ok-line-in-Some-Ok.ensures.shown

pub returns-in_ok-around-in-Some-Err-clause-told : goal.returns-in_ok-around-in-Some-Err-clause-told
returns-in_ok-around-in-Some-Err-clause-told c =
    tells_refusal c.args.tape.now c.sum_of-happened.result c.in-Some-Err.fault c.number-number.result _ _ c.sum_of-happened.ensures
    (search rules) c.number-number.ensures c.in_ok-around-in-Some-Err.ensures.shown
