-- What a line of the shell says.
use Rattle.std.specs.Prelude.{ℕ, Bool, false, ◌==◌, ◌&&◌, nat_lt, nat_le, if◌then◌else◌, List, [], ◌∷◌, length, Option, Some, None, option_map}
use Rattle.std.specs.List.{list_all}
use Rattle.std.specs.Option.{option_or}
use Rattle.disk_dcdd.specs.declared.address.SectorAddress.{SectorAddress}
use Rattle.script_language.specs.declared.keyword.Keyword.{Keyword}
use Rattle.script_language.specs.declared.keyword.Keyword.TheVariants as keyword
use Rattle.script_language.specs.declared.line.Line.{Line}
use Rattle.script_language.specs.declared.line.Line.TheVariants as script
use Rattle.script_language.specs.Grammar.{keyword_of, is_setup, line_of}
use Rattle.script_language.specs.Words.{words_of, whole, bytes_of, ◌>>=◌}
use Rattle.shell_language.specs.declared.line.ShellLine.{ShellLine}
use Rattle.shell_language.specs.declared.line.ShellLine.TheVariants as shell
use Rattle.shell_language.specs.Lines.{address, load_of, own_line}
use Rattle.shell_language.specs.Shown.{is_printable}

-- an event or a query of a script, as a line of the shell
abbrev pub as_said : Line → ShellLine
as_said (script.Event happening) = shell.Event happening
as_said (script.Query asked) = shell.Query asked

-- from 1 to 137 bytes
abbrev pub fill_sector : Option (List ℕ) → Bool
fill_sector None = false
fill_sector (Some bytes) = nat_lt 0 (length bytes) && nat_le (length bytes) 137

-- HH ..: the words of a sector's bytes
abbrev pub filling : SectorAddress → Option (List ℕ) → List (List ℕ) → Option ShellLine
filling place bytes words = if fill_sector bytes then Some (shell.SetSector place words) else None

-- a line of the setup; a sector may have several values
abbrev pub setup_line : Keyword → List (List ℕ) → Option ShellLine
setup_line keyword.Sector words = address words >>= λ place. filling place.0 (bytes_of place.1) place.1
setup_line word words = Some (shell.Setup word words)

-- a line of the script language
abbrev pub script_by : Keyword → List (List ℕ) → Option ShellLine
script_by word words = if is_setup word then setup_line word words else option_map as_said (whole (line_of word) words)

abbrev pub script_line : List (List ℕ) → Option ShellLine
script_line [] = None
script_line (first ∷ words) = keyword_of first >>= λ word. script_by word words

-- a line that scripts do not have: a record of Intel HEX begins with a colon, which is 58
abbrev pub other_line : List ℕ → Option ShellLine
other_line [] = None
other_line (byte ∷ text) = if byte == 58 then load_of (byte ∷ text) else own_line (words_of (byte ∷ text)) (byte ∷ text)

-- each byte is a printable character of ASCII, or a space
abbrev pub are_printable : List ℕ → Bool
are_printable text = list_all is_printable text

-- A line that is neither empty nor a comment; a line that is one of a script as well is that one.
abbrev pub text_said : List ℕ → Option ShellLine
text_said text =
    if are_printable text then option_or (script_line (words_of text)) (other_line text) else None

-- What a line says; nothing if it is empty or begins with #, which is 35.
abbrev pub line_says : List ℕ → Option ShellLine
line_says [] = Some shell.Empty
line_says (byte ∷ text) = if byte == 35 then Some shell.Empty else text_said (byte ∷ text)

-- the same for a line of at most 65,536 bytes
abbrev pub said : List ℕ → Option ShellLine
said text = if nat_le (length text) 65536 then line_says text else None
