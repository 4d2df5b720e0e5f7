-- Whoever writes it as often as is left has written it as often as it is to be.
use Rattle.std.proofs.Common.{ℕ, Option, List, replicate}
use Rattle.std.specs.Io.KnownBytes.{Appends}
use Rattle.console_terminal.proofs.redraw.write_times.Given as goal

abbrev pub invariant-times : goal.invariant-times
invariant-times g l =
    (end : Option (List ℕ)) → Appends (g.W.Write.contents l.writer) end (replicate l.rest l.byte)
    → Appends (g.W.Write.contents l.fn.writer) end (replicate l.fn.times l.fn.byte)

abbrev pub decreases-times : goal.decreases-times
decreases-times g l = l.rest
