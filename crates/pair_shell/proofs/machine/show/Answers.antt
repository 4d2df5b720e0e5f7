-- The registers are those of the board's guest.
use Rattle.pair_shell.proofs.Looking.{shows_registers}
use Rattle.pair_shell.proofs.machine.show.Goals as goal

pub returns-in-Registers : goal.returns-in-Registers
returns-in-Registers g c =
    shows_registers c.args.view c.processor.result.now c.count.result c.args.board.now.guest c.args.printed.now _
    c.print_registers.result c.in-Registers.is c.processor.ensures c.count.ensures.value c.print_registers.ensures
