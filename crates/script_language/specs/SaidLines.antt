-- The events and queries that lines say, each by itself.
use Rattle.std.specs.Prelude.{◌≡◌, ℕ, ◌==◌, if◌then◌else◌, List, [], ◌∷◌, ◌++◌, Option, Some, None, Result, Ok, Err}
use Rattle.script_language.specs.declared.line.Line.{Line}
use Rattle.script_language.specs.Words.{words_of, whole, ◌>>=◌}
use Rattle.script_language.specs.Text.{lines_of, text_of}
use Rattle.script_language.specs.Grammar.{keyword_of, is_setup, line_of}
use Rattle.script_language.specs.Booting.{Boot}

-- the event or the query that some words are, if they are one
abbrev pub line_by : List (List ℕ) → Option Line
line_by [] = None
line_by (first ∷ words) = keyword_of first >>= λ word. if is_setup word then None else whole (line_of word) words

-- the same for a whole line; an empty line says none, nor does one that begins with #
abbrev pub line_said : List ℕ → Option Line
line_said [] = None
line_said (byte ∷ text) = if byte == 35 then None else line_by (words_of (byte ∷ text))

-- none or one
abbrev pub list_of : Option Line → List Line
list_of None = []
list_of (Some line) = line ∷ []

-- those of all lines, in their order
abbrev pub lines_said : List (List ℕ) → List Line
lines_said [] = []
lines_said (line ∷ lines) = list_of (line_said (text_of line)) ++ lines_said lines

-- a script has the events and queries of its lines
abbrev pub HasItsLines : List ℕ → Result (Boot × List Line) ℕ → Type 0
HasItsLines text (Ok script) = script.1 ≡ lines_said (lines_of text)
HasItsLines text (Err number) = Unit {0}
