-- Bytes as they are shown: as text, or in hexadecimal.
use Rattle.std.specs.Prelude.{ℕ, ◌/◌, ◌%◌, ◌&&◌, nat_le, nat_lt, Bool, if◌then◌else◌, List, [], ◌∷◌, ◌++◌, length, take, codes}
use Rattle.std.specs.List.{flat_map}
use Rattle.pair_events.specs.Printed.{byte_text}

-- a printable character of ASCII, or a space
abbrev pub is_printable : ℕ → Bool
is_printable byte = nat_le 32 byte && nat_le byte 126

-- a byte as it is shown: a dot, which is 46, if it is not printable
abbrev pub shown_byte : ℕ → ℕ
shown_byte byte = if is_printable byte then byte else 46

abbrev pub shown_bytes : List ℕ → List ℕ
shown_bytes bytes = flat_map (λ (byte : ℕ). shown_byte byte ∷ []) bytes

-- a word, or its first 24 bytes
abbrev pub shown_text : List ℕ → List ℕ
shown_text word = if nat_lt 24 (length word) then shown_bytes (take 24 word) ++ codes "..." else shown_bytes word

-- an address: four hexadecimal digits
abbrev pub address_text : ℕ → List ℕ
address_text address = byte_text (address / 256) ++ byte_text (address % 256)
