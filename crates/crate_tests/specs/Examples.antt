-- What the tests wire a processor to: a memory of any size, and ports that give their own numbers with some bits flipped.
use Rattle.std.specs.Prelude.{ℕ, bit_xor, List, slice_index_or, slice_set}
use Rattle.i8080_words.specs.Effects.{Access}
use Rattle.i8080_words.specs.Effects.Access.{Write, Input, Output}

-- the byte at an address, 00 past the end
abbrev pub byte_in : List ℕ → ℕ → ℕ
byte_in bytes address = slice_index_or bytes address 0

-- a port gives its number, with bits 6, 4, 3 and 1 flipped
abbrev pub input_at : List ℕ → ℕ → ℕ
input_at bytes port = bit_xor port 0x5A

-- a port keeps nothing
abbrev pub access_of : Access → List ℕ → List ℕ
access_of (Write address byte) bytes = slice_set bytes address byte
access_of (Input port) bytes = bytes
access_of (Output port byte) bytes = bytes
