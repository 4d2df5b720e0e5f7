-- The sectors of the lines so far come after the others.
use Rattle.std.proofs.Common.{◌≡◌, ◌++◌, map, take}
use Rattle.script_language.specs.Scripts.{boot_write}
use Rattle.command_io.proofs.input.put_each.Given as goal

abbrev pub invariant-loop-line : goal.invariant-loop-line
invariant-loop-line l = l.sectors.items ≡ l.fn.sectors.items ++ map boot_write (take l.line-index l.lines)
