-- Whoever writes the rest has written all.
use Rattle.std.proofs.Common.{ℕ, Option, List, length}
use Rattle.std.specs.Io.KnownBytes.{Appends}
use Rattle.console_terminal.specs.Lines.{shown_at}
use Rattle.console_terminal.proofs.display.write_seen.Given as goal

abbrev pub invariant-kept : goal.invariant-kept
invariant-kept g l =
    (end : Option (List ℕ)) → Appends (g.W.Write.contents l.screen) end (shown_at l.port l.rest)
    → Appends (g.W.Write.contents l.fn.screen) end (shown_at l.port l.fn.kept)

abbrev pub decreases-kept : goal.decreases-kept
decreases-kept g l = length l.rest
