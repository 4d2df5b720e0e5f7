-- The writes of the sectors so far.
use Rattle.std.proofs.Common.{◌≡◌, map, take}
use Rattle.script_language.specs.Scripts.{boot_write}
use Rattle.altair_pair.proofs.pairs.writes_of.Given as goal

abbrev pub invariant-loop-sector : goal.invariant-loop-sector
invariant-loop-sector l = l.writes.items ≡ map boot_write (take l.sector-index l.sectors)
