-- The names so far are written.
use Rattle.std.specs.Fmt.{HasWritten, IsPlainFormatter}
use Rattle.shell_picture.specs.Pictures.{names_to}
use Rattle.shell_picture.proofs.head.write_names.Given as goal

abbrev pub invariant-loop-column : goal.invariant-loop-column
invariant-loop-column g l =
    IsPlainFormatter l.initial.f → HasWritten g.W.Write.write_str_gives l.initial.f (names_to l.places l.column) l.f
