-- Which lines of a text are bad, and what the command `lint` prints of them.
use Rattle.std.specs.Prelude.{◌≡◌, ℕ, ◌+◌, ◌-◌, Bool, true, nat_lt, if◌then◌else◌, Option, Some, None, List, [], ◌∷◌, ◌++◌, length, IfSome, Result, Ok, Err, MatchResult, codes, take, unwrap_or}
use Rattle.std.specs.Fmt.{decimal}
use Rattle.std.specs.List.{flat_map}
use Rattle.std.specs.Io.KnownBytes.{Appends}
use Rattle.command_io.specs.Reports.{AddsLine}
use Rattle.command_io.specs.declared.failure.Failure.{Failure}
use Rattle.command_io.specs.declared.failure.Failure.TheVariants.{BadScript, OutOfMemory, InputOrOutput}
use Rattle.command_script.specs.Reasons.{reason_text, why_bad}
use Rattle.command_script.specs.declared.reason.Reason.{Reason}
use Rattle.command_script.specs.declared.reason.Reason.TheVariants.{Size}
use Rattle.script_language.specs.Booting.{Boot}
use Rattle.script_language.specs.Meaning.{Said, has_begun, is_astray, nothing_said, said_in, script_of, with_line}
use Rattle.script_language.specs.Text.{lines_of, text_of}
use Rattle.script_language.specs.declared.line.Line.{Line}

-- ---- bad lines

-- a bad line: its number, and why it is bad, in words
pub record Bad : Type 0 where
  pub number : ℕ
  pub reason : List ℕ

abbrev pub named : ℕ → Reason → Bad
named number reason = record { number = number; reason = reason_text reason }

-- what is said after a line; a bad one says nothing
abbrev pub line_after : ℕ → List ℕ → Said → Said
line_after number text said = unwrap_or (with_line number text said) said

-- A line of this number is bad: it may not come there, and says nothing, or it says a sector on a drive that is not among
-- so many.
abbrev pub is_bad : ℕ → ℕ → Option Said → Bool
is_bad drives number None = true
is_bad drives number (Some said) = is_astray number drives said.boot.sectors

-- a line of this number and text, if it is bad after what was said before it
abbrev pub bad_at : ℕ → ℕ → List ℕ → Said → List Bad
bad_at drives number text said =
    if is_bad drives number (with_line number text said)
    then record { number = number; reason = why_bad text (has_begun (line_after number text said)) drives } ∷ []
    else []

-- The bad lines from this number on, in this much room. The first one without room is bad, and no line after it is read.
unfoldable pub bad_from : ℕ → ℕ → ℕ → List (List ℕ) → Said → List Bad
bad_from drives room number [] said = []
bad_from drives room number (line ∷ lines) said =
    if nat_lt room (length line) then named number Size ∷ []
    else bad_at drives number (text_of line) said
    ++ bad_from drives (room - length line) (number + 1) lines (line_after number (text_of line) said)

-- The bad lines of a text, in their order. Sectors are on drives that are attached in the end.
abbrev pub bad_lines : List ℕ → List Bad
bad_lines text = bad_from (said_in text).boot.drives 1048576 1 (lines_of text) nothing_said

-- the number of the first
abbrev pub first_number : List Bad → Option ℕ
first_number [] = None
first_number (bad ∷ bads) = Some bad.number

-- ---- what is printed

-- the line that names a bad one
abbrev pub named_text : Bad → List ℕ
named_text bad = codes "line " ++ decimal bad.number ++ codes ": " ++ bad.reason

-- the same with its end
abbrev pub row_text : Bad → List ℕ
row_text bad = named_text bad ++ (10 ∷ [])

-- a script without a bad line, which has so many lines
abbrev pub told_text : ℕ → List ℕ
told_text lines = codes "well formed; lines: " ++ decimal lines

-- each of these lines was named, in their order, and nothing else was printed
abbrev pub NamesEach : List Bad → Option (List ℕ) → Option (List ℕ) → Type 0
NamesEach bads old new = Appends old new (flat_map row_text bads)

-- so were the first of them
pub record NamesSome (bads : List Bad) (old new : Option (List ℕ)) : Type 0 where
  pub named : List Bad
  pub left : List Bad
  pub are : bads ≡ named ++ left
  pub each : NamesEach named old new

-- what was printed before a failure; nothing is claimed if input or output failed
abbrev pub NamesBut : List Bad → Failure → Option (List ℕ) → Option (List ℕ) → Type 0
NamesBut bads OutOfMemory old new = NamesSome bads old new
NamesBut bads InputOrOutput old new = Unit {0}
NamesBut bads _ old new = ⊥

abbrev pub NamesUntil : List Bad → Result (Unit {0}) Failure → Option (List ℕ) → Option (List ℕ) → Type 0
NamesUntil bads result old new = MatchResult result (λ _. NamesEach bads old new) (λ failure. NamesBut bads failure old new)

-- the number of the line for which a text is no script; none if it is one
abbrev pub IsFirstBad : List ℕ → Option ℕ → Type 0
IsFirstBad text None = (script : Boot × List Line) × (script_of text ≡ Ok script)
IsFirstBad text (Some line) = script_of text ≡ Err line

-- a text that is a script: it has no bad line, and so many lines
pub record LintsWell (text : List ℕ) (old new : Option (List ℕ)) : Type 0 where
  pub script : Boot × List Line
  pub says : script_of text ≡ Ok script
  pub none : bad_lines text ≡ []
  pub told : AddsLine (Some (told_text (length (lines_of text)))) old new

-- one that is none: each bad line is named, and the first of them is the one for which the text is refused
pub record LintsBad (text : List ℕ) (line : ℕ) (old new : Option (List ℕ)) : Type 0 where
  pub says : script_of text ≡ Err line
  pub first : first_number (bad_lines text) ≡ Some line
  pub each : NamesEach (bad_lines text) old new

abbrev pub LintsBut : List ℕ → Failure → Option (List ℕ) → Option (List ℕ) → Type 0
LintsBut text (BadScript line) old new = LintsBad text line old new
LintsBut text failure old new = NamesBut (bad_lines text) failure old new

abbrev pub LintsText : List ℕ → Result (Unit {0}) Failure → Option (List ℕ) → Option (List ℕ) → Type 0
LintsText text result old new = MatchResult result (λ _. LintsWell text old new) (λ failure. LintsBut text failure old new)

-- the same of the first 1,048,577 bytes that a reader has; if it is not known what it has, of some bytes
pub record Lints (remaining : Option (List ℕ)) (result : Result (Unit {0}) Failure) (old new : Option (List ℕ)) : Type 0 where
  pub text : List ℕ
  pub read : IfSome remaining (λ bytes. text ≡ take 1048577 bytes)
  pub lints : LintsText text result old new
