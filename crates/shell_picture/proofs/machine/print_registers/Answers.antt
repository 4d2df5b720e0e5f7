-- Both lines are printed.
use Rattle.shell_picture.specs.Machines.{registers_text, state_text}
use Rattle.shell_picture.proofs.Looking.{prints_two}
use Rattle.shell_picture.proofs.machine.print_registers.Goals as goal

pub returns : goal.returns
returns c =
    prints_two (registers_text c.args.processor.now.regs) (state_text c.args.processor.now c.args.count) c.args.printed.now
    c.line.new.self c.line-2.new.self c.in_ok-line.ensures.shown c.in_ok-line-2.ensures.shown
