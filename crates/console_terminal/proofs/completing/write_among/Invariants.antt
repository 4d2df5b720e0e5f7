-- Whoever writes the rest has written all.
use Rattle.std.proofs.Common.{ℕ, Option, List, map, length}
use Rattle.std.specs.Io.KnownBytes.{Appends}
use Rattle.console_terminal.specs.Completing.{listed}
use Rattle.console_terminal.proofs.completing.write_among.Given as goal

abbrev pub invariant-rows : goal.invariant-rows
invariant-rows g l =
    (end : Option (List ℕ)) → Appends (g.W.Write.contents l.writer) end (listed (map (λ row. (row.0.now, row.1)) l.rest) l.front)
    → Appends (g.W.Write.contents l.fn.writer) end (listed (map (λ row. (row.0.now, row.1)) l.fn.rows) l.front)

abbrev pub decreases-rows : goal.decreases-rows
decreases-rows g l = length l.rest
