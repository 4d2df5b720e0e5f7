-- A line that is taken adds the event or the query that it says, and nothing else. If no line is bad, each is taken; so
-- what was read has those of all lines.
use Rattle.std.proofs.Common.{◌≡◌, ℕ, ◌+◌, ◌-◌, List, [], ◌∷◌, ◌++◌, length, Bool, true, false, Option, Some, None, refl, sym, ap, subst, ◌∙◌, append-nil, append_assoc}
use Rattle.std.specs.Prelude.{nat_lt, ◌==◌, if◌then◌else◌}
use Rattle.std.specs.Option.{option_or}
use Rattle.std.proofs.lemmas.Option.{none-some}
use Rattle.script_language.specs.declared.keyword.Keyword.{Keyword}
use Rattle.script_language.specs.declared.line.Line.{Line}
use Rattle.script_language.specs.Words.{whole, words_of, ◌>>=◌}
use Rattle.script_language.specs.Text.{lines_of, text_of}
use Rattle.script_language.specs.Grammar.{is_setup, keyword_of, line_of}
use Rattle.script_language.specs.Booting.{Boot, boot_after}
use Rattle.script_language.specs.Meaning.{Said, first_astray, lower_of, nothing_said, read, said_in, script_of, script_unless, with_boot, with_keyword, with_line, with_more, with_words}
use Rattle.script_language.specs.SaidLines.{HasItsLines, line_by, line_said, lines_said, list_of}
use Rattle.script_language.proofs.FirstBad.{bad_stays, next_bad, next_said, next_taken, read_no_more, read_nothing, read_on}
use Rattle.script_language.proofs.Kept.{taken_keeps}

-- what was said has one more line, if this is one
abbrev Tells : Said → Option Line → Option Said → Type 0
Tells said line None = Unit {0}
Tells said line (Some more) = more.lines ≡ said.lines ++ list_of line

boot_tells : (said : Said) (boot : Option Boot) → Tells said None (with_boot said boot)
boot_tells said None = tt
boot_tells said (Some boot) = sym (append-nil said.lines)

more_tells : (said : Said) (line : Option Line) → Tells said line (with_more said line)
more_tells said None = tt
more_tells said (Some line) = refl

setup_tells : (said : Said) (test : Bool) (boot : Option Boot) → Tells said None (if test then with_boot said boot else None)
setup_tells said true boot = boot_tells said boot
setup_tells said false boot = tt

keyword_tells-at : (said : Said) (setup first : Bool) (boot : Option Boot) (line : Option Line)
    → Tells said (if setup then None else line) (if setup then (if first then with_boot said boot else None) else with_more said line)
keyword_tells-at said true first boot line = setup_tells said first boot
keyword_tells-at said false first boot line = more_tells said line

words_tell-at : (number : ℕ) (words : List (List ℕ)) (said : Said) (keyword : Option Keyword)
    → Tells said (keyword >>= λ (word : Keyword). if is_setup word then None else whole (line_of word) words)
    (keyword >>= λ (word : Keyword). with_keyword word number words said)
words_tell-at number words said None = tt
words_tell-at number words said (Some word) =
    keyword_tells-at said (is_setup word) (length said.lines == 0) (boot_after word number words said.boot) (whole (line_of word) words)

words_tell : (number : ℕ) (words : List (List ℕ)) (said : Said) → Tells said (line_by words) (with_words number words said)
words_tell number [] said = tt
words_tell number (first ∷ words) said = words_tell-at number words said (keyword_of first)

line_tells-at : (number : ℕ) (words : List (List ℕ)) (said : Said) (comment : Bool)
    → Tells said (if comment then None else line_by words) (if comment then Some said else with_words number words said)
line_tells-at number words said true = sym (append-nil said.lines)
line_tells-at number words said false = words_tell number words said

line_tells : (number : ℕ) (text : List ℕ) (said : Said) → Tells said (line_said text) (with_line number text said)
line_tells number [] said = sym (append-nil said.lines)
line_tells number (byte ∷ text) said = line_tells-at number (words_of (byte ∷ text)) said (byte == 35)

taken_tells : (number : ℕ) (text : List ℕ) (said more : Said) → with_line number text said ≡ Some more
    → more.lines ≡ said.lines ++ list_of (line_said text)
taken_tells number text said more e = subst (Tells said (line_said text)) e (line_tells number text said)

-- reading, with no bad line
abbrev IsSaid : Said → List (List ℕ) → Said → Type 0
IsSaid said lines after = after.bad ≡ None → after.lines ≡ said.lines ++ lines_said lines

said_far : (room number : ℕ) (said : Said) (line : List ℕ) (lines : List (List ℕ)) → nat_lt room (length line) ≡ true → said.bad ≡ None
    → IsSaid said (line ∷ lines) (read room number (line ∷ lines) said)
said_far room number said line lines e none good =
    absurd (none-some number (sym good ∙ ap (λ (s : Said). s.bad) (read_no_more room number line lines said e)
    ∙ ap (λ (bad : Option ℕ). option_or bad (Some number)) none))

said_next : (said next : Said) (line : List ℕ) (lines : List (List ℕ)) (after : Said)
    → next.lines ≡ said.lines ++ list_of (line_said (text_of line)) → after.lines ≡ next.lines ++ lines_said lines
    → after.lines ≡ said.lines ++ lines_said (line ∷ lines)
said_next said next line lines after e h =
    h ∙ ap (λ (all : List Line). all ++ lines_said lines) e
    ∙ append_assoc said.lines (list_of (line_said (text_of line))) (lines_said lines)

said_on : (room number : ℕ) (said : Said) (line : List ℕ) (lines : List (List ℕ)) (more : Option Said)
    → with_line number (text_of line) said ≡ more → said.bad ≡ None
    → ((next_said number line said).bad ≡ None → IsSaid (next_said number line said) lines (read room (number + 1) lines (next_said number line said)))
    → IsSaid said (line ∷ lines) (read room (number + 1) lines (next_said number line said))
said_on room number said line lines None e none rest good =
    let bad : (next_said number line said).bad ≡ Some number
    = ap (λ (s : Said). s.bad) (next_bad number line said e) ∙ ap (λ (b : Option ℕ). option_or b (Some number)) none in
    absurd (none-some number (sym good ∙ bad_stays lines room (number + 1) (next_said number line said) number bad))
said_on room number said line lines (Some more) e none rest good =
    let taken : next_said number line said ≡ more = next_taken number line said more e in
    let still : (next_said number line said).bad ≡ None
    = ap (λ (s : Said). s.bad) taken ∙ (taken_keeps number (text_of line) said more e).bad ∙ none in
    let told : (next_said number line said).lines ≡ said.lines ++ list_of (line_said (text_of line))
    = ap (λ (s : Said). s.lines) taken ∙ taken_tells number (text_of line) said more e in
    said_next said (next_said number line said) line lines (read room (number + 1) lines (next_said number line said)) told (rest still good)

said_at : (room number : ℕ) (said : Said) (line : List ℕ) (lines : List (List ℕ)) (test : Bool) → nat_lt room (length line) ≡ test
    → said.bad ≡ None
    → ((next_said number line said).bad ≡ None → IsSaid (next_said number line said) lines
    (read (room - length line) (number + 1) lines (next_said number line said)))
    → IsSaid said (line ∷ lines) (read room number (line ∷ lines) said)
said_at room number said line lines true e none rest = said_far room number said line lines e none
said_at room number said line lines false e none rest =
    subst (IsSaid said (line ∷ lines)) (sym (read_on room number line lines said e))
    (said_on (room - length line) number said line lines (with_line number (text_of line) said) refl none rest)

all_said : (lines : List (List ℕ)) (room number : ℕ) (said : Said) → said.bad ≡ None → IsSaid said lines (read room number lines said)
all_said [] room number said none = λ good. ap (λ (s : Said). s.lines) (read_nothing room number said) ∙ sym (append-nil said.lines)
all_said (line ∷ lines) room number said none =
    said_at room number said line lines (nat_lt room (length line)) refl none
    (all_said lines (room - length line) (number + 1) (next_said number line said))

by_parts : (text : List ℕ) (bad astray : Option ℕ) → (said_in text).bad ≡ bad
    → HasItsLines text (script_unless (lower_of bad astray) (said_in text))
by_parts text None None e = all_said (lines_of text) 1048576 1 nothing_said refl e
by_parts text (Some line) None e = tt
by_parts text None (Some sector) e = tt
by_parts text (Some line) (Some sector) e = tt

pub scripts_have_their_lines : (text : List ℕ) → HasItsLines text (script_of text)
unfolding script_of
scripts_have_their_lines text = by_parts text (said_in text).bad (first_astray (said_in text).boot) refl
