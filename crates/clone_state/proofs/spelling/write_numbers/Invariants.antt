use Rattle.std.proofs.Common.{◌≡◌, ◌++◌, take}
use Rattle.clone_state.proofs.Words.{number, spell_each}
use Rattle.clone_state.proofs.spelling.write_numbers.Given as goal

abbrev pub invariant-loop-number : goal.invariant-loop-number
invariant-loop-number l = l.out.items ≡ l.fn.out.items ++ spell_each number (take l.number-index l.numbers)
