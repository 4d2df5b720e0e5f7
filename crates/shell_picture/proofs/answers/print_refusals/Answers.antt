-- One refusal more is printed; in the end all are.
use Rattle.std.proofs.Common.{◌≤◌, length, arith}
use Rattle.shell_picture.proofs.HelpRows.{tells_fault_more, tells_refusals}
use Rattle.shell_picture.proofs.answers.print_refusals.Goals as goal

pub loop-fault-preserved : goal.loop-fault-preserved
loop-fault-preserved c =
    tells_fault_more c.refusals-fault-items.result.now c.loop-fault.fault-index _ c.args.printed.now c.loop-fault.printed
    c.line.new.self c.refusals-fault-items.ensures c.loop-fault-test.true c.loop-fault.invariant c.in_ok-line.ensures.shown

pub returns : goal.returns
returns c =
    let all = c.refusals-fault-items.result.now in
    let past : length all ≤ c.loop-fault.fault-index = omega arith in
    tells_refusals all c.loop-fault.fault-index c.args.printed.now c.loop-fault.printed c.refusals-fault-items.ensures past
    c.loop-fault.invariant
