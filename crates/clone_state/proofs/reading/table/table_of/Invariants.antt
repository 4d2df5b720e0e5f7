use Rattle.std.proofs.Common.{◌≡◌, ◌-◌, length, take}
use Rattle.clone_state.proofs.Words.{number, table}
use Rattle.clone_state.proofs.Collecting.{collected}
use Rattle.clone_state.proofs.reading.table.table_of.Given as goal

abbrev pub invariant-loop-sector : goal.invariant-loop-sector
invariant-loop-sector l = record {
  long : length l.numbers ≡ 32;
  read : table.read l.fn.payload ≡ collected number (take l.sector l.numbers) (32 - l.sector) l.rest;
}
