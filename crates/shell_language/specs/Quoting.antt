-- Text in double quotes, in which a backslash begins a character that cannot be typed.
use Rattle.std.specs.Prelude.{ℕ, Bool, true, false, ◌==◌, ◌&&◌, ◌||◌, if◌then◌else◌, List, [], ◌∷◌, Option, Some, None, option_map}
use Rattle.std.specs.List.{list_all}
use Rattle.script_language.specs.Words.{is_space, ◌>>=◌}

-- \r, \n, \" and \\, by the byte after the backslash
abbrev pub escape_of : ℕ → Option ℕ
escape_of byte =
    if byte == 114 then Some 13
    else (if byte == 110 then Some 10
    else (if (byte == 34) || (byte == 92) then Some byte else None))

-- one more character before the others, if there are such
unfoldable pub with_first : ℕ → Option (List ℕ) → Option (List ℕ)
with_first first others = option_map (λ (bytes : List ℕ). first ∷ bytes) others

-- the quote that ends the text, and nothing but spaces after it
abbrev pub is_end : List ℕ → Bool
is_end [] = false
is_end (byte ∷ rest) = (byte == 34) && list_all is_space rest

-- The characters of a text up to the quote that ends it, after a backslash or not.
unfoldable pub characters : Bool → List ℕ → Option (List ℕ)
characters after [] = None
characters true (byte ∷ rest) = escape_of byte >>= λ first. with_first first (characters false rest)
characters false (byte ∷ rest) =
    if byte == 92 then characters true rest
    else (if byte == 34 then (if list_all is_space rest then Some [] else None)
    else with_first byte (characters false rest))

-- the characters of a text that begins after its first quote
abbrev pub text_in : List ℕ → Option (List ℕ)
text_in line = characters false line
