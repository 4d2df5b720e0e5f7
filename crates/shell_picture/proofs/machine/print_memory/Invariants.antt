-- Whatever the lines of the rest print after those so far, it is what all of them print.
use Rattle.std.proofs.Common.{length}
use Rattle.shell_language.specs.Texts.{Prints}
use Rattle.shell_language.specs.declared.printing.Printed.{Printed}
use Rattle.shell_picture.specs.Machines.{memory_rows}
use Rattle.shell_picture.proofs.machine.print_memory.Given as goal

abbrev pub invariant-lines : goal.invariant-lines
invariant-lines l = (last : Printed) → Prints (memory_rows l.address l.rest) l.printed last
    → Prints (memory_rows l.from l.bytes) l.initial.printed last

abbrev pub decreases-lines : goal.decreases-lines
decreases-lines l = length l.rest
