-- What was taken so far is handed on, and there is room for the note that closes a command line.
use Rattle.std.proofs.Common.{◌<◌, None}
use Rattle.rtrb.specs.Ring.{known_free}
use Rattle.console_terminal.specs.Listening.{Listens}
use Rattle.console_terminal.proofs.listener.hear_all.Given as goal

abbrev pub invariant-loop : goal.invariant-loop
invariant-loop g l =
    Listens g.S.KeySource.left g.I.Interpreter.given None l.fn.listener l.listener × (0 < known_free l.listener.notes)
