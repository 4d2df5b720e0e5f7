-- The bytes before the next one were typed.
use Rattle.std.proofs.Common.{◌≡◌, take}
use Rattle.pair_shell.specs.Asked.{keys_of}
use Rattle.pair_shell.proofs.asked.keys_of.Given as goal

abbrev pub invariant-loop-byte : goal.invariant-loop-byte
invariant-loop-byte l = l.events.items ≡ keys_of l.port (take l.byte-index l.byte-items)
