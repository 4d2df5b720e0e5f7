-- What is printed of bytes of memory as instructions.
use Rattle.std.specs.Prelude.{ℕ, zero, suc, ◌+◌, ◌==◌, if◌then◌else◌, List, [], ◌∷◌, ◌++◌, take, drop, slice_get, slice_index, unwrap_or, codes}
use Rattle.i8080_words.specs.Arithmetic.{wrapped}
use Rattle.i8080_words.specs.Opcodes.{instruction, instruction_length}
use Rattle.pair_events.specs.Printed.{bytes_text}
use Rattle.shell_language.specs.Texts.{Row, Text}
use Rattle.shell_picture.specs.Assembly.{instruction_text}
use Rattle.shell_language.specs.Shown.{address_text}

-- of three bytes those of an instruction of this size
abbrev pub instruction_bytes : ℕ → List ℕ → List ℕ
instruction_bytes size bytes = if size == 1 then take 1 bytes else (if size == 2 then take 2 bytes else bytes)

-- spaces in place of the others
abbrev pub gap_text : ℕ → List ℕ
gap_text size = if size == 1 then codes "      " else (if size == 2 then codes "   " else [])

-- `AAAA HH ..  INSTRUCTION`: the instruction at the beginning of three bytes
abbrev pub listing_text : ℕ → List ℕ → List ℕ
listing_text address bytes =
    let size = instruction_length (slice_index bytes 0) in
    address_text address
    ++ (codes " " ++ (bytes_text (instruction_bytes size bytes) ++ (gap_text size ++ (codes "  "
    ++ instruction_text (instruction (slice_index bytes 0) (slice_index bytes 1) (slice_index bytes 2))))))

-- the byte at a place, and 00 past the end
abbrev pub byte_in : List ℕ → ℕ → ℕ
byte_in bytes place = unwrap_or (slice_get bytes place) 0

-- `dis N AAAA K`: so many instructions, one after another
abbrev pub listing_rows : ℕ → ℕ → List ℕ → List Row
listing_rows zero address bytes = []
listing_rows (suc count) address bytes =
    Text (listing_text address (byte_in bytes 0 ∷ byte_in bytes 1 ∷ byte_in bytes 2 ∷ []))
    ∷ listing_rows count (wrapped (address + instruction_length (byte_in bytes 0))) (drop (instruction_length (byte_in bytes 0)) bytes)
