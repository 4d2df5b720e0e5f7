-- One more byte is shown.
use Rattle.console_terminal.proofs.Joined.{shows_on}
use Rattle.console_terminal.proofs.screen.Screen.show.Goals as goal

pub returns-clause-shown : goal.returns-clause-shown
returns-clause-shown c = λ at bytes shown.
    shows_on c.args.self.now.ring c.push.new.ring at c.args.port c.args.byte bytes c.push.ensures.same c.push.ensures.gone shown
