-- What was heard before, and the byte by which it ends.
use Rattle.std.proofs.Common.{None, Some}
use Rattle.console_terminal.proofs.Hearing.{and_then}
use Rattle.console_terminal.proofs.listener.hear_all.Goals as goal

pub returns-in-Some : goal.returns-in-Some
returns-in-Some g c =
    and_then g.S.KeySource.left g.I.Interpreter.given (Some c.in-Some.ending) c.args.listener.now c.has_room.new.self c.turn-ending.new.self
    (and_then g.S.KeySource.left g.I.Interpreter.given None c.args.listener.now c.loop.listener c.has_room.new.self c.loop.invariant.0 c.has_room.ensures.same)
    c.in-Some.ensures.heard
