-- What came so far is on the copy.
use Rattle.command_console.specs.Mirrors.{Follows}
use Rattle.command_console.proofs.mirror.Mirror.catch_up.Given as goal

abbrev pub invariant-loop : goal.invariant-loop
invariant-loop l = Follows l.fn.self l.self
