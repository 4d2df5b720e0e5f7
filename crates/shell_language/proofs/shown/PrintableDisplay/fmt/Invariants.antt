-- The bytes before the next one are written.
use Rattle.std.proofs.Common.{take}
use Rattle.std.specs.Fmt.{HasWritten, IsPlainFormatter}
use Rattle.shell_language.specs.Shown.{shown_bytes}
use Rattle.shell_language.proofs.shown.PrintableDisplay.fmt.Given as goal

abbrev pub invariant-loop-byte : goal.invariant-loop-byte
invariant-loop-byte g l =
    IsPlainFormatter l.initial.f → HasWritten g.W.Write.write_str_gives l.initial.f (shown_bytes (take l.byte-index l.byte-items)) l.f
