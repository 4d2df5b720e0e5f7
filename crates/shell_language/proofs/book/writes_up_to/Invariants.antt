-- The numbers so far.
use Rattle.std.proofs.Common.{◌≡◌}
use Rattle.shell_language.specs.Notes.{writes_up_to}
use Rattle.shell_language.proofs.book.writes_up_to.Given as goal

abbrev pub invariant-loop-number : goal.invariant-loop-number
invariant-loop-number l = l.numbers.items ≡ writes_up_to l.number
