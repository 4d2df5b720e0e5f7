-- The numbers of a message, highest byte first: eight bytes, below the limit of all numbers; a generation has four.
use Rattle.std.specs.Prelude.{ℕ, ◌^◌, ◌<◌, List, length, take, drop, slice_index, Option, Some, None, option_and_then, nat_lt, ◌==◌, if◌then◌else◌}
use Rattle.std.specs.Int.{w32, w64, from_be_bytes}

-- each item is a byte
abbrev pub IsBytes : List ℕ → Type 0
IsBytes bytes = (i : ℕ) → slice_index bytes i < 256

-- reading one thing after another: if the first is there, the second is what it leads to
infixl 10 ◌>>=◌
abbrev pub ◌>>=◌ : {A B : Type 0} → Option A → (A → Option B) → Option B
first >>= second = option_and_then second first

-- a number and the bytes after it, if the number is below the limit
abbrev pub limited : ℕ → List ℕ → Option (ℕ × List ℕ)
limited number rest = if nat_lt number (2 ^ 62) then Some (number, rest) else None

-- the number at the front and the bytes after it
unfoldable pub number_from : List ℕ → Option (ℕ × List ℕ)
number_from bytes =
    if nat_lt (length bytes) 8 then None else limited (from_be_bytes w64 (take 8 bytes)) (drop 8 bytes)

-- a generation and the bytes after it; no generation is 0
abbrev pub nonzero : ℕ → List ℕ → Option (ℕ × List ℕ)
nonzero generation rest = if generation == 0 then None else Some (generation, rest)

unfoldable pub generation_from : List ℕ → Option (ℕ × List ℕ)
generation_from bytes =
    if nat_lt (length bytes) 4 then None else nonzero (from_be_bytes w32 (take 4 bytes)) (drop 4 bytes)
