-- One refusal more is told, if it holds something up.
use Rattle.shell_picture.proofs.Telling.{tells_held_more}
use Rattle.shell_picture.proofs.held_up.print_held_up.Goals as goal

pub loop-fault-preserved : goal.loop-fault-preserved
loop-fault-preserved c =
    tells_held_more c.args.tape.now c.args.book.now c.refusals-fault-items.result.now c.loop-fault.fault-index _ c.meeting_of.result
    c.args.printed.now c.loop-fault.printed c.print_if.new.printed c.refusals-fault-items.ensures c.meeting_of.ensures
    c.loop-fault-test.true c.loop-fault.invariant c.in_ok-print_if.ensures
