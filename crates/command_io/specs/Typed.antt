-- The keys that the lines of a script type.
use Rattle.std.specs.Prelude.{ℕ, ◌==◌, if◌then◌else◌, Option, Some, None, List, [], ◌∷◌}
use Rattle.pair_events.specs.declared.event.Event.TheVariants.{TypeByte}
use Rattle.script_language.specs.declared.line.Line.{Line}
use Rattle.script_language.specs.declared.line.Line.TheVariants.{Event}

-- the byte that a line types at a port, and the bytes that lines do
abbrev pub typed_by : ℕ → Line → Option ℕ
typed_by port (Event (TypeByte at byte)) = if at == port then Some byte else None
typed_by port line = None

abbrev pub with_byte : Option ℕ → List ℕ → List ℕ
with_byte None bytes = bytes
with_byte (Some byte) bytes = byte ∷ bytes

abbrev pub typed_in : ℕ → List Line → List ℕ
typed_in port [] = []
typed_in port (line ∷ lines) = with_byte (typed_by port line) (typed_in port lines)
