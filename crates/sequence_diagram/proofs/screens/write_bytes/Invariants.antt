-- The bytes before the next one are written.
use Rattle.std.proofs.Common.{take}
use Rattle.std.specs.Fmt.{HasWritten, IsPlainFormatter}
use Rattle.sequence_diagram.specs.Screens.{spaced_bytes}
use Rattle.sequence_diagram.proofs.screens.write_bytes.Given as goal

abbrev pub invariant-loop-byte : goal.invariant-loop-byte
invariant-loop-byte g l =
    IsPlainFormatter l.initial.f → HasWritten g.W.Write.write_str_gives l.initial.f (spaced_bytes (take l.byte-index l.bytes)) l.f
