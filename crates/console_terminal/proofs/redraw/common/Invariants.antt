-- What is left of both begins with as many equal bytes as are not counted yet.
use Rattle.std.proofs.Common.{◌≡◌, ◌+◌, length}
use Rattle.console_terminal.specs.Completing.{common}
use Rattle.console_terminal.proofs.redraw.common.Given as goal

abbrev pub invariant-equal : goal.invariant-equal
invariant-equal l =
    (common l.rest.0.now l.rest.1.now + l.count ≡ common l.fn.first l.fn.second)
    × (l.count + length l.rest.0.now ≡ length l.fn.first) × (l.count + length l.rest.1.now ≡ length l.fn.second)

abbrev pub decreases-equal : goal.decreases-equal
decreases-equal l = length l.rest.0.now
