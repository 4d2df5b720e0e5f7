-- The bytes before the next one are written.
use Rattle.std.proofs.Common.{take}
use Rattle.std.specs.Fmt.{HasWritten, IsPlainFormatter}
use Rattle.command_live.specs.Text.{escaped_text}
use Rattle.command_live.proofs.text.EscapedDisplay.fmt.Given as goal

abbrev pub invariant-loop-byte : goal.invariant-loop-byte
invariant-loop-byte g l =
    IsPlainFormatter l.initial.f → HasWritten g.W.Write.write_str_gives l.initial.f
    (escaped_text l.port (take l.byte-index l.bytes)) l.f
