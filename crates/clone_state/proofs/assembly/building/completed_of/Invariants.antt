use Rattle.std.proofs.Common.{◌≡◌, take}
use Rattle.clone_state.proofs.Words.{numbers_in}
use Rattle.clone_state.proofs.assembly.building.completed_of.Given as goal

abbrev pub invariant-loop-slot : goal.invariant-loop-slot
invariant-loop-slot l = l.completed.items ≡ numbers_in (take l.slot-index l.tables)
