use Rattle.std.proofs.Common.{◌≡◌, take}
use Rattle.clone_state.proofs.Words.{bytes_in}
use Rattle.clone_state.proofs.assembly.building.memory_of.Given as goal

abbrev pub invariant-loop-slot : goal.invariant-loop-slot
invariant-loop-slot l = l.memory.items ≡ bytes_in (take l.slot-index l.pages)
