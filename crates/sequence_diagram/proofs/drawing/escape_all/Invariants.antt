-- The letters so far are written.
use Rattle.std.proofs.Common.{◌≡◌, ◌++◌, string_bytes}
use Rattle.std.specs.List.{flat_map}
use Rattle.sequence_diagram.specs.Escapes.{escaped}
use Rattle.sequence_diagram.proofs.drawing.escape_all.Given as goal

abbrev pub invariant-loop-letter : goal.invariant-loop-letter
invariant-loop-letter l = string_bytes l.text ≡ string_bytes l.fn.text ++ flat_map escaped l.yielded
