-- The scripts of a pair on threads: a setup, and what is typed.
use Rattle.std.specs.Prelude.{ℕ, ◌+◌, min, nat_lt, Bool, true, false, ◌||◌, ◌==◌, if◌then◌else◌, List, [], ◌∷◌, Option, Some, None, Result, Ok, Err}
use Rattle.std.specs.Option.{option_map_or}
use Rattle.pair_events.specs.declared.event.Event.TheVariants as event
use Rattle.script_language.specs.declared.keyword.Keyword.{Keyword}
use Rattle.script_language.specs.declared.keyword.Keyword.TheVariants as keyword
use Rattle.script_language.specs.declared.line.Line.{Line}
use Rattle.script_language.specs.declared.line.Line.TheVariants as line
use Rattle.script_language.specs.Booting.{Boot}
use Rattle.script_language.specs.Grammar.{is_setup, keyword_of, line_of}
use Rattle.script_language.specs.Meaning.{script_of}
use Rattle.script_language.specs.Text.{lines_of, text_of}
use Rattle.script_language.specs.Words.{whole, words_of}

-- a line of the setup: no access of the disk fails, and reads are not shared
abbrev pub is_live_setup : Keyword → Bool
is_live_setup keyword.Fail = false
is_live_setup keyword.Reads = false
is_live_setup other = is_setup other

-- a byte typed at port 0 or 1
abbrev pub is_typed : Option Line → Bool
is_typed (Some (line.Event (event.TypeByte port byte))) = nat_lt port 2
is_typed _ = false

-- by the first word of a line and those after it
abbrev pub fits_keyword : Keyword → List (List ℕ) → Bool
fits_keyword word words = is_live_setup word || is_typed (whole (line_of word) words)

abbrev pub fits_words : List (List ℕ) → Bool
fits_words [] = false
fits_words (first ∷ words) = option_map_or (λ word. fits_keyword word words) (keyword_of first) false

-- an empty line fits, and so does one that begins with #, which is 35
abbrev pub fits : List ℕ → Bool
fits [] = true
fits (byte ∷ text) = if byte == 35 then true else fits_words (words_of (byte ∷ text))

-- the number of the first of these lines that does not fit, if they are numbered from this one on
unfoldable pub first_unfit : ℕ → List (List ℕ) → Option ℕ
first_unfit number [] = None
first_unfit number (line ∷ lines) = if fits (text_of line) then first_unfit (number + 1) lines else Some number

-- a line that does not fit is bad, unless one before it is
abbrev pub unless_unfit : Option ℕ → Result (Boot × List Line) ℕ → Result (Boot × List Line) ℕ
unless_unfit None script = script
unless_unfit (Some line) (Ok script) = Err line
unless_unfit (Some line) (Err other) = Err (min line other)

-- The script of a pair on threads that a text is, or the number of its first bad line.
unfoldable pub live_script_of : List ℕ → Result (Boot × List Line) ℕ
live_script_of text = unless_unfit (first_unfit 1 (lines_of text)) (script_of text)
