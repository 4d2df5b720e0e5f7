use Rattle.std.proofs.Common.{◌≡◌, length}
use Rattle.console_terminal.specs.Commands.{number_after}
use Rattle.console_terminal.proofs.command.long_number_of.Given as goal

abbrev pub invariant-digits : goal.invariant-digits
invariant-digits l = number_after l.number l.rest ≡ number_after 0 l.word

abbrev pub decreases-digits : goal.decreases-digits
decreases-digits l = length l.rest
