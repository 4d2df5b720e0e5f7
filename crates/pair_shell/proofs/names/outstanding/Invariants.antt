-- The bytes, and the writes so far.
use Rattle.std.proofs.Common.{◌≡◌, ◌++◌, map, take}
use Rattle.pair_shell.specs.Outstanding.{bytes_out, write_at}
use Rattle.pair_shell.proofs.names.outstanding.Given as goal

abbrev pub invariant-loop-place : goal.invariant-loop-place
invariant-loop-place g l =
    let M = g.B.Lockstep.machine in
    let s = g.B.Lockstep.state l.guest in
    l.names.items ≡ (bytes_out M s 0 ++ bytes_out M s 1) ++ map write_at (take l.place-index l.places)
