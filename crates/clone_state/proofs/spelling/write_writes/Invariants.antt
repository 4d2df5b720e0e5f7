use Rattle.std.proofs.Common.{◌≡◌, ◌++◌, take}
use Rattle.clone_state.proofs.Words.{spell_each, write}
use Rattle.clone_state.proofs.spelling.write_writes.Given as goal

abbrev pub invariant-loop-write : goal.invariant-loop-write
invariant-loop-write l = l.out.items ≡ l.fn.out.items ++ spell_each write (take l.write-index l.writes)
