-- The bytes that the lines so far type at the port.
use Rattle.std.proofs.Common.{◌≡◌, take}
use Rattle.command_io.specs.Typed.{typed_in}
use Rattle.command_live.proofs.beginning.typed_at.Given as goal

abbrev pub invariant-loop-line : goal.invariant-loop-line
invariant-loop-line l = l.typed.items ≡ typed_in l.port (take l.line-index l.lines)
