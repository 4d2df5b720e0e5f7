-- Which lines of an input are answered.
use Rattle.std.specs.Prelude.{ℕ, ◌==◌, ◌-◌, ◌||◌, nat_lt, Bool, false, if◌then◌else◌, List, [], ◌∷◌, ◌++◌, length, take, bytes_eq}
use Rattle.pair_shell.specs.Sessions.{is_quit, is_run}
use Rattle.script_language.specs.Text.{end_of}
use Rattle.shell_language.specs.Saying.{said}

-- a line without its CR, which is 13
abbrev pub without_cr : List ℕ → List ℕ
without_cr line = if bytes_eq (end_of 1 line) (13 ∷ []) then take (length line - 1) line else line

-- it is `quit`
abbrev pub is_quit_line : List ℕ → Bool
is_quit_line line = is_quit (said (without_cr line))

-- it is a day of the pair
abbrev pub is_run_line : List ℕ → Bool
is_run_line line = is_run (said (without_cr line))

-- what is kept of a line with one more byte: no more than 65,538 bytes, which is too many for a line; 10 ends a line
abbrev pub kept_with : List ℕ → ℕ → List ℕ
kept_with line byte = if nat_lt (length line) 65538 then line ++ byte ∷ [] else line

abbrev pub after_byte : List ℕ → ℕ → List ℕ
after_byte line byte = if byte == 10 then [] else kept_with line byte

-- a byte ends a line that is `quit`
abbrev pub byte_ends : List ℕ → ℕ → Bool
byte_ends line byte = if byte == 10 then is_quit_line line else false

-- one of some bytes does, after what was kept of a line
abbrev pub ends_in : List ℕ → List ℕ → Bool
ends_in line [] = false
ends_in line (byte ∷ bytes) = byte_ends line byte || ends_in (after_byte line byte) bytes

-- what is kept after them
abbrev pub kept_in : List ℕ → List ℕ → List ℕ
kept_in line [] = line
kept_in line (byte ∷ bytes) = kept_in (after_byte line byte) bytes

-- the line that a byte ends, if it ends one
abbrev pub heard_at : List ℕ → ℕ → List (List ℕ)
heard_at line byte = if byte == 10 then line ∷ [] else []

-- the lines that end among some bytes, up to the first that is `quit`
abbrev pub heard_in : List ℕ → List ℕ → List (List ℕ)
heard_in line [] = []
heard_in line (byte ∷ bytes) = heard_at line byte ++ (if byte_ends line byte then [] else heard_in (after_byte line byte) bytes)

-- what is left at the end of an input is a line, unless it is empty
abbrev pub last_line : List ℕ → List (List ℕ)
last_line [] = []
last_line (byte ∷ line) = (byte ∷ line) ∷ []

-- The lines of an input that are answered: all that end in it, up to the first that is `quit`; and what is left after the
-- last of them, if none is.
abbrev pub heard : List ℕ → List (List ℕ)
heard input = heard_in [] input ++ (if ends_in [] input then [] else last_line (kept_in [] input))
