-- What is traced comes first in what is printed, since nothing was printed before.
use Rattle.pair_shell.proofs.session.ShellSession.begin.Goals as goal

pub returns-clause-traced : goal.returns-clause-traced
returns-clause-traced g c = λ is. c.in_ok-taken.ensures.traced is c.requires.blank
