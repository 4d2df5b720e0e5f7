-- The bytes before the next one were read.
use Rattle.std.proofs.Common.{◌≡◌}
use Rattle.pair_shell.specs.Looking.{bytes_from}
use Rattle.pair_shell.proofs.machine.bytes_from.Given as goal

abbrev pub invariant-loop-place : goal.invariant-loop-place
invariant-loop-place g l = l.bytes.items ≡ bytes_from l.board.guest.memory l.from l.place
