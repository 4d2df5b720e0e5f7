-- The bytes before the next one are written.
use Rattle.std.proofs.Common.{take}
use Rattle.std.specs.Fmt.{HasWritten, IsPlainFormatter}
use Rattle.pair_events.specs.Printed.{bytes_text}
use Rattle.pair_events.proofs.in_hexadecimal.SpacedDisplay.fmt.Given as goal

abbrev pub invariant-loop-byte : goal.invariant-loop-byte
invariant-loop-byte g l =
    IsPlainFormatter l.initial.f → HasWritten g.W.Write.write_str_gives l.initial.f (bytes_text (take l.byte-index l.byte-items)) l.f
