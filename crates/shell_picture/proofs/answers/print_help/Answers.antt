-- One form more is printed; in the end all are.
use Rattle.std.proofs.Common.{◌≤◌, length, arith}
use Rattle.shell_picture.proofs.HelpRows.{tells_form_more, tells_forms}
use Rattle.shell_picture.proofs.answers.print_help.Goals as goal

pub loop-form-preserved : goal.loop-form-preserved
loop-form-preserved c =
    tells_form_more c.forms-form-items.result.now c.loop-form.form-index _ c.args.printed.now c.loop-form.printed c.line.new.self
    c.forms-form-items.ensures c.loop-form-test.true c.loop-form.invariant c.in_ok-line.ensures.shown

pub returns : goal.returns
returns c =
    let all = c.forms-form-items.result.now in
    let past : length all ≤ c.loop-form.form-index = omega arith in
    tells_forms all c.loop-form.form-index c.args.printed.now c.loop-form.printed c.forms-form-items.ensures past c.loop-form.invariant
