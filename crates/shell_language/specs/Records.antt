-- Records of Intel HEX: what each says, or why a line is none.
use Rattle.std.specs.Prelude.{ℕ, zero, ◌+◌, ◌-◌, ◌*◌, ◌/◌, ◌%◌, ◌==◌, ◌||◌, nat_lt, nat_le, if◌then◌else◌, List, [], ◌∷◌, length, take, drop, sum, slice_index, Option, Some, None, Result, Ok, Err}
use Rattle.std.specs.Result.{result_ok}
use Rattle.hex.specs.Hex.{decode_of}
use Rattle.shell_language.specs.declared.loading.RecordMistake.{RecordMistake}
use Rattle.shell_language.specs.declared.loading.RecordMistake.TheVariants as mistake

-- bytes for the memory, from an address on
pub record Loaded : Type 0 where
  pub address : ℕ
  pub bytes : List ℕ

-- these bytes from this address on, if none is past FFFF
abbrev pub data_from : ℕ → List ℕ → Result Loaded RecordMistake
data_from start bytes =
    if nat_le (start + length bytes) 65536 then Ok (record { address = start; bytes = bytes }) else Err (mistake.Past start)

-- no bytes
abbrev pub nothing_at : ℕ → Result Loaded RecordMistake
nothing_at start = Ok (record { address = start; bytes = [] })

-- Types 02 and 04 are an extended segment and an extended linear address, of two bytes: what follows is in the first 64K
-- if both are 00.
abbrev pub extended : ℕ → ℕ → List ℕ → Result Loaded RecordMistake
extended kind address (zero ∷ zero ∷ []) = nothing_at address
extended kind address (high ∷ low ∷ []) = Err (mistake.Extended kind)
extended kind address bytes = Err (mistake.Size kind 2)

-- Types 03 and 05 are a start segment and a start linear address, of four bytes: they are skipped.
abbrev pub start : ℕ → ℕ → List ℕ → Result Loaded RecordMistake
start kind address (first ∷ second ∷ third ∷ fourth ∷ []) = nothing_at address
start kind address bytes = Err (mistake.Size kind 4)

-- by the type: 00 is data, and 01 is the end
unfoldable pub by_type : ℕ → ℕ → List ℕ → Result Loaded RecordMistake
by_type kind address bytes =
    if kind == 0 then data_from address bytes
    else (if kind == 1 then nothing_at address
    else (if (kind == 2) || (kind == 4) then extended kind address bytes
    else (if (kind == 3) || (kind == 5) then start kind address bytes else Err (mistake.Type kind))))

-- the byte that would bring a sum to a multiple of 256, if the last byte were that one
abbrev pub wanted_sum : List ℕ → ℕ
wanted_sum bytes = (slice_index bytes (length bytes - 1) + 256 - sum bytes % 256) % 256

-- LL AA AA TT DD .. CC: as many bytes of data as LL says, and a last byte that brings the sum to a multiple of 256
abbrev pub record_in : List ℕ → Result Loaded RecordMistake
record_in bytes =
    if nat_lt (length bytes) 5 then Err mistake.Digits
    else (if slice_index bytes 0 == length bytes - 5
    then (if sum bytes % 256 == 0
    then by_type (slice_index bytes 3) (slice_index bytes 1 * 256 + slice_index bytes 2) (take (length bytes - 5) (drop 4 bytes))
    else Err (mistake.Sum (wanted_sum bytes) (slice_index bytes (length bytes - 1))))
    else Err (mistake.Length (slice_index bytes 0) (length bytes - 5)))

-- what the bytes say, if digits gave some
abbrev pub record_if : Option (List ℕ) → Result Loaded RecordMistake
record_if None = Err mistake.Digits
record_if (Some bytes) = record_in bytes

-- Pairs of digits; no record has more than 260 of them.
abbrev pub record_by : List ℕ → Result Loaded RecordMistake
record_by digits =
    if nat_le (length digits / 2) 260 then record_if (result_ok (decode_of digits)) else Err mistake.Digits

-- A colon, and then the digits.
abbrev pub record_of : List ℕ → Result Loaded RecordMistake
record_of [] = Err mistake.Digits
record_of (colon ∷ digits) = if colon == 58 then record_by digits else Err mistake.Digits
