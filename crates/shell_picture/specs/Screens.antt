-- What a terminal shows, as text.
use Rattle.std.specs.Prelude.{ℕ, ◌-◌, nat_lt, Bool, true, false, if◌then◌else◌, List, [], ◌∷◌, ◌++◌, length, take, drop, map, bytes_eq, Option, is_some, unwrap_or, codes}
use Rattle.std.specs.Fmt.{decimal}
use Rattle.std.specs.List.{flat_map}
use Rattle.i8080_words.specs.declared.refusal.Fault.TheVariants.{Unknown}
use Rattle.pair_events.specs.Printed.{byte_text}
use Rattle.script_language.specs.Text.{end_of, lines_of}
use Rattle.shell_language.specs.Texts.{Row, Text}
use Rattle.shell_language.specs.Shown.{is_printable}
use Rattle.shell_picture.specs.Answers.{refused}

-- how many bytes of a port are shown, all of them or what is new
abbrev pub bytes_word : Bool → List ℕ
bytes_word true = codes " new bytes"
bytes_word false = codes " bytes"

abbrev pub head_text : ℕ → ℕ → Bool → List ℕ
head_text port count is_new = codes "screen " ++ (decimal port ++ (codes ": " ++ (decimal count ++ bytes_word is_new)))

-- a line without this byte at its end
abbrev pub without : ℕ → List ℕ → List ℕ
without byte line = if bytes_eq (end_of 1 line) (byte ∷ []) then take (length line - 1) line else line

-- a byte as it is shown: itself, or `\xHH` if it is not printable
abbrev pub escaped_byte : ℕ → List ℕ
escaped_byte byte = if is_printable byte then byte ∷ [] else codes "\\x" ++ byte_text byte

abbrev pub escaped_text : List ℕ → List ℕ
escaped_text bytes = flat_map escaped_byte bytes

-- a line, without its LF, which is 10, and a CR before that, which is 13, between two bars
abbrev pub screen_text : List ℕ → List ℕ
screen_text line = codes "|" ++ (escaped_text (without 13 (without 10 line)) ++ codes "|")

abbrev pub line_row : List ℕ → Row
line_row line = Text (screen_text line)

abbrev pub line_rows : List ℕ → List Row
line_rows text = map line_row (lines_of text)

-- `screen P` and `screen P new`: what the terminal of a port has accepted after the first so many bytes; there are two ports
abbrev pub screen_rows : ℕ → List ℕ → Option ℕ → List Row
screen_rows port bytes seen =
    if nat_lt port 2
    then Text (head_text port (length (drop (unwrap_or seen 0) bytes)) (is_some seen)) ∷ line_rows (drop (unwrap_or seen 0) bytes)
    else refused Unknown ∷ []
