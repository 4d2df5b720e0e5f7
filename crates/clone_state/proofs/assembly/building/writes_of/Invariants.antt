use Rattle.std.proofs.Common.{◌≡◌, take}
use Rattle.clone_state.proofs.Words.{writes_in}
use Rattle.clone_state.proofs.assembly.building.writes_of.Given as goal

abbrev pub invariant-loop-one : goal.invariant-loop-one
invariant-loop-one l = l.writes.items ≡ writes_in (take l.one-index l.outstanding)
