-- What is left comes to the same after what was found as all rows after nothing.
use Rattle.std.proofs.Common.{◌≡◌, ◌≤◌, ◌+◌, map, length}
use Rattle.console_terminal.specs.Completing.{completion_after, no_word}
use Rattle.console_terminal.proofs.completing.completion_among.Given as goal

abbrev pub invariant-rows : goal.invariant-rows
invariant-rows l =
    (completion_after (record { count = l.count; tail = l.tail }) (map (λ row. (row.0.now, row.1)) l.rest) l.front
    ≡ completion_after no_word (map (λ row. (row.0.now, row.1)) l.fn.rows) l.front)
    × (l.count + length l.rest ≤ length l.fn.rows)

abbrev pub decreases-rows : goal.decreases-rows
decreases-rows l = length l.rest
