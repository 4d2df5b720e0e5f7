-- What a console says first.
use Rattle.std.specs.Prelude.{ℕ, ◌+◌, ◌/◌, ◌%◌, ◌==◌, nat_lt, if◌then◌else◌, List, [], ◌∷◌, ◌++◌, codes}

-- the character of a hexadecimal digit: from 48 on 0 to 9, from 65 on A to F
abbrev pub digit_code : ℕ → ℕ
digit_code number = if nat_lt number 10 then 48 + number else 55 + number

-- two of them
abbrev pub digits_of : ℕ → List ℕ
digits_of byte = digit_code (byte / 16) ∷ digit_code (byte % 16) ∷ []

-- what a byte is called
abbrev pub byte_name : ℕ → List ℕ
byte_name byte = codes "the byte " ++ digits_of byte

-- what a key is called: the first row that it fits; from 65 on are the letters
abbrev pub key_name : ℕ → List ℕ
key_name key =
    if key == 0 then byte_name key else
    (if nat_lt key 27 then codes "Ctrl-" ++ (64 + key) ∷ [] else
    (if key == 27 then codes "ESC" else byte_name key))

-- one line, by the key that opens a command line
abbrev pub greeting_of : ℕ → List ℕ
greeting_of escape =
    codes "pair: an Altair 8800 on two hosts. " ++ key_name escape ++ (codes " opens a line of commands; help lists them." ++ 13 ∷ 10 ∷ [])
