-- What is shown of a terminal is what it has accepted in the world.
use Rattle.std.proofs.Common.{rules}
use Rattle.pair_shell.proofs.Looking.{shown_alone}
use Rattle.pair_shell.proofs.machine.take_line.Goals as goal

pub returns-in-Screen-clause-looked : goal.returns-in-Screen-clause-looked
returns-in-Screen-clause-looked g c =
    shown_alone (λ d. d.board.guest) c.args.line c.in-Screen.port c.in-Screen.is_new c.args.notes.now.shown c.accepted.result.now
    c.show_screen.new.self.tape.items c.args.world.now c.args.printed.now c.show_screen.new.printed c.show_screen.result c.in-Screen.is
    (search rules) c.accepted.ensures c.show_screen.ensures.told
