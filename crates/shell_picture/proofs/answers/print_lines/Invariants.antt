-- The lines so far are printed.
use Rattle.std.proofs.Common.{length}
use Rattle.shell_picture.proofs.Screens.{PrintsOn}
use Rattle.shell_picture.specs.Screens.{line_rows}
use Rattle.shell_picture.proofs.answers.print_lines.Given as goal

abbrev pub invariant-lines : goal.invariant-lines
invariant-lines l = PrintsOn (line_rows l.text) (line_rows l.rest) l.fn.printed l.printed

abbrev pub decreases-lines : goal.decreases-lines
decreases-lines l = length l.rest
