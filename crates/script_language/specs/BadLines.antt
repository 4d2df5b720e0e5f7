-- When a line of a text is bad, and what refuses a script.
use Rattle.std.specs.Prelude.{◌≡◌, ℕ, ◌+◌, ◌<◌, ◌≤◌, ◌⊎◌, List, [], ◌∷◌, ◌++◌, length, None, Result, Ok, Err}
use Rattle.script_language.specs.declared.line.Line.{Line}
use Rattle.script_language.specs.Text.{lines_of, text_of}
use Rattle.script_language.specs.Booting.{Boot, Filled}
use Rattle.script_language.specs.Meaning.{nothing_said, read, said_in, with_line}

-- how many bytes some lines have
abbrev pub bytes_in : List (List ℕ) → ℕ
bytes_in [] = 0
bytes_in (line ∷ lines) = length line + bytes_in lines

-- The line of this number ends after byte 1,048,576, or is not one that may come after the lines before it.
pub record IsNoLine (text : List ℕ) (number : ℕ) : Type 0 where
  pub before : List (List ℕ)
  pub line : List ℕ
  pub after : List (List ℕ)
  pub all : lines_of text ≡ before ++ (line ∷ after)
  pub counted : number ≡ 1 + length before
  pub none : (1048576 < bytes_in before + length line)
      ⊎ (with_line number (text_of line) (read 1048576 1 before nothing_said) ≡ None)

-- the line of this number says one of these sectors, and its drive is not attached
abbrev pub IsAstray : ℕ → ℕ → List Filled → Type 0
IsAstray drives number [] = ⊥
IsAstray drives number (sector ∷ sectors) =
    ((sector.line ≡ number) × (drives ≤ sector.drive)) ⊎ IsAstray drives number sectors

-- A line is bad: it is not valid there, or says a sector of a drive that is not attached in the end.
abbrev pub IsBad : List ℕ → ℕ → Type 0
IsBad text number = IsNoLine text number ⊎ IsAstray (said_in text).boot.drives number (said_in text).boot.sectors

-- no line of a script is bad; a refusal names a bad line, and no line before it is bad
abbrev pub NamesFirstBad : List ℕ → Result (Boot × List Line) ℕ → Type 0
NamesFirstBad text (Ok script) = (number : ℕ) → IsBad text number → ⊥
NamesFirstBad text (Err number) = IsBad text number × ((other : ℕ) → IsBad text other → number ≤ other)
