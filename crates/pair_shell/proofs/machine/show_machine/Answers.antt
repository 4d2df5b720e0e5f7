-- A node that shows itself but no machine has halted, or is still given its machine.
use Rattle.pair_shell.proofs.Looking.{sees_no_machine}
use Rattle.pair_shell.proofs.machine.show_machine.Goals as goal

pub returns-in-Some-node : goal.returns-in-Some-node
returns-in-Some-node g c =
    sees_no_machine (λ d. d.board.guest) c.args.look c.args.world.now c.args.printed.now c.print_refusal.new.printed
    c.print_refusal.result c.in-Some-node.field-0 c.in_default.ensures c.in-Some-node.ensures c.print_refusal.ensures.told
