-- What came so far is written or kept.
use Rattle.console_terminal.specs.Screen.{Wrote}
use Rattle.console_terminal.proofs.echo.write_rest.Given as goal

abbrev pub invariant-loop : goal.invariant-loop
invariant-loop g l = Wrote g.W.Write.contents g.N.Write.contents l.fn.display l.display
