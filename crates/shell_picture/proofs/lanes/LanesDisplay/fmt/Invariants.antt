-- The columns so far are written.
use Rattle.std.specs.Fmt.{HasWritten, IsPlainFormatter}
use Rattle.shell_picture.specs.Pictures.{columns_text}
use Rattle.shell_picture.proofs.lanes.LanesDisplay.fmt.Given as goal

abbrev pub invariant-loop-column : goal.invariant-loop-column
invariant-loop-column g l =
    IsPlainFormatter l.initial.f → HasWritten g.W.Write.write_str_gives l.initial.f
    (columns_text l.self.moments.now l.self.columns.now.places.items l.self.event l.self.stroke l.self.wait l.column) l.f
