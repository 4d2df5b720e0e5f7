-- What is left comes to the same on the line as it is now as all on the first one.
use Rattle.std.proofs.Common.{◌≡◌, length}
use Rattle.console_terminal.specs.Editing.{added_all}
use Rattle.console_terminal.proofs.cursor_line.CursorLine.add_all.Given as goal

abbrev pub invariant-bytes : goal.invariant-bytes
invariant-bytes l = added_all l.rest l.self ≡ added_all l.fn.bytes l.fn.self

abbrev pub decreases-bytes : goal.decreases-bytes
decreases-bytes l = length l.rest
