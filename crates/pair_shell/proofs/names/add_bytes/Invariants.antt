-- The bytes so far that are outstanding.
use Rattle.std.proofs.Common.{◌≡◌, ◌++◌}
use Rattle.pair_shell.specs.Outstanding.{bytes_to}
use Rattle.pair_shell.proofs.names.add_bytes.Given as goal

abbrev pub invariant-loop-place : goal.invariant-loop-place
invariant-loop-place g l =
    l.names.items ≡ l.fn.names.items
    ++ bytes_to g.B.Lockstep.machine (g.B.Lockstep.state l.guest) l.port l.due l.place
