-- What is left has as many columns as are not counted yet.
use Rattle.std.proofs.Common.{◌≡◌, ◌≤◌, ◌+◌, length}
use Rattle.console_terminal.specs.Editing.{columns}
use Rattle.console_terminal.proofs.character.columns.Given as goal

abbrev pub invariant-columns : goal.invariant-columns
invariant-columns l = (l.count + columns l.rest ≡ columns l.bytes) × (l.count + length l.rest ≤ length l.bytes)

abbrev pub decreases-columns : goal.decreases-columns
decreases-columns l = length l.rest
