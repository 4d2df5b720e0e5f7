-- Why a line of a script is bad, in words: those of the shell for a line that is wrong there too.
use Rattle.std.specs.Prelude.{ℕ, ◌==◌, nat_le, Bool, true, false, if◌then◌else◌, Option, Some, None, List, [], ◌∷◌, ◌++◌, bytes_eq, codes}
use Rattle.std.specs.Fmt.{decimal}
use Rattle.command_script.specs.declared.reason.Reason.{Reason}
use Rattle.command_script.specs.declared.reason.Reason.TheVariants as reason
use Rattle.script_language.specs.Grammar.{is_setup, keyword_of}
use Rattle.script_language.specs.Words.{words_of}
use Rattle.script_language.specs.declared.keyword.Keyword.{Keyword}
use Rattle.script_language.specs.declared.keyword.Keyword.TheVariants.{Sector}
use Rattle.shell_language.specs.Forms.{Shape, Word, Within, Byte, Exactly, Quoted, row, shapes}
use Rattle.shell_language.specs.Mistakes.{Flaw, Late, Misfit, Missing, NoText, OneTooMany, flaw_in, flaw_of, flaw_text, last_word}
use Rattle.shell_language.specs.Shown.{shown_text}

-- ---- the words

-- a line of the shell, which is written like this
abbrev pub of_shell_text : List ℕ → List ℕ
of_shell_text usage = codes "`" ++ (usage ++ codes "` is a line of the shell, and of no script")

-- a sector on this drive, of which there are so many
abbrev pub detached_text : List ℕ → ℕ → List ℕ
detached_text drive drives =
    codes "word 2 is " ++ (shown_text drive ++ (codes ": a drive below " ++ (decimal drives ++ codes " is expected; `drives N` attaches more")))

abbrev pub reason_text : Reason → List ℕ
reason_text reason.Size =
    codes "the script has more than " ++ (decimal 1048576 ++ codes " bytes, and the first that is too many is in this line")
reason_text reason.Spaces = codes "the line has spaces alone"
reason_text (reason.Unknown word) = shown_text word.now ++ codes " begins no line of a script"
reason_text (reason.OfShell usage) = of_shell_text usage.now
reason_text (reason.Detached drive drives) = detached_text drive.now drives
reason_text (reason.Words mistake) = flaw_text (flaw_of mistake)

-- ---- a word that begins no line of a script

-- a record begins with a colon, which is 58; in the shell it may follow the word `load`
abbrev pub record_word : List ℕ → List ℕ
record_word [] = []
record_word (byte ∷ bytes) = if byte == 58 then codes "load" else byte ∷ bytes

-- how the first of some forms with this word is written
abbrev pub usage_in : List Shape → List ℕ → Option (List ℕ)
usage_in [] word = None
usage_in (shape ∷ shapes) word = if bytes_eq shape.word word then Some shape.usage else usage_in shapes word

abbrev pub unknown_by : List ℕ → Option (List ℕ) → List ℕ
unknown_by word (Some usage) = of_shell_text usage
unknown_by word None = shown_text word ++ codes " begins no line of a script"

-- it begins a line of the shell, or none
abbrev pub unknown_text : List ℕ → List ℕ
unknown_text word = unknown_by word (usage_in shapes (record_word word))

-- ---- a line that does not fit its form

-- a form that scripts do not have: its last word is text, or `all`
abbrev pub is_own : Option Word → Bool
is_own (Some Quoted) = true
is_own (Some (Exactly text)) = bytes_eq text (codes "all")
is_own other = false

-- the form that a line does not fit, if it does not fit one word by word
abbrev pub form_in : Flaw → Option Shape
form_in (Missing place shape kind) = Some shape
form_in (Misfit place word shape kind) = Some shape
form_in (OneTooMany place word shape) = Some shape
form_in (NoText shape) = Some shape
form_in other = None

abbrev pub misfit_by : Flaw → Option Shape → List ℕ
misfit_by flaw (Some shape) = if is_own (last_word shape) then of_shell_text shape.usage else flaw_text flaw
misfit_by flaw None = flaw_text flaw

-- what the shell says of it, unless the form is one that scripts do not have
abbrev pub misfit_text : Flaw → List ℕ
misfit_text flaw = misfit_by flaw (form_in flaw)

-- ---- a sector, which has one byte alone in a script, where the shell takes several

abbrev pub sector_shape : Shape
sector_shape = row (codes "sector") (Within 0 3 ∷ Within 0 76 ∷ Within 0 31 ∷ Byte ∷ []) (codes "sector D T S HH") (codes "setup: 137 times this byte")

-- the words after the first: one too many, or a drive that is not attached
abbrev pub sector_more : List (List ℕ) → ℕ → List ℕ
sector_more (drive ∷ (track ∷ (sector ∷ (byte ∷ (word ∷ words))))) drives = flaw_text (OneTooMany 6 word sector_shape)
sector_more (drive ∷ words) drives = detached_text drive drives
sector_more [] drives = detached_text [] drives

abbrev pub sector_text : Flaw → List (List ℕ) → ℕ → List ℕ
sector_text (Missing place shape kind) words drives = flaw_text (Missing place sector_shape kind)
sector_text (Misfit place word shape kind) words drives =
    if nat_le place 5 then flaw_text (Misfit place word sector_shape kind) else sector_more words drives
sector_text other words drives = sector_more words drives

-- ---- a bad line

abbrev pub is_sector : Keyword → Bool
is_sector Sector = true
is_sector other = false

abbrev pub why_misfit : Keyword → List ℕ → List (List ℕ) → ℕ → List ℕ
why_misfit keyword text words drives =
    if is_sector keyword then sector_text (flaw_in (words_of text)) words drives else misfit_text (flaw_in (words_of text))

-- a setup line after an event or a query is late, whatever its words are
abbrev pub why_keyword : Option Keyword → List ℕ → List ℕ → List (List ℕ) → Bool → ℕ → List ℕ
why_keyword None text first words has_begun drives = unknown_text first
why_keyword (Some keyword) text first words true drives =
    if is_setup keyword then flaw_text (Late text) else why_misfit keyword text words drives
why_keyword (Some keyword) text first words false drives = why_misfit keyword text words drives

abbrev pub why_by : List (List ℕ) → List ℕ → Bool → ℕ → List ℕ
why_by [] text has_begun drives = codes "the line has spaces alone"
why_by (first ∷ words) text has_begun drives = why_keyword (keyword_of first) text first words has_begun drives

-- Why a line of this text is bad, if so many drives are attached in the end, and an event or a query came before it or not.
abbrev pub why_bad : List ℕ → Bool → ℕ → List ℕ
why_bad text has_begun drives = why_by (words_of text) text has_begun drives
