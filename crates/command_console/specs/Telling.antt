-- How a line that tells of a pair is written, or handed over.
use Rattle.std.specs.Prelude.{ℕ, ◌==◌, if◌then◌else◌, List, ◌∷◌, [], ◌++◌, codes, length}
use Rattle.command_console.specs.Lines.{line_text}
use Rattle.command_console.specs.declared.line.PairLine.{PairLine}

-- how a line is written at a terminal that takes each byte as it is: 13 and 10 are CR and LF
abbrev pub shown_text : PairLine → List ℕ
shown_text line = (13 ∷ 10 ∷ codes "pair: ") ++ (line_text line ++ 13 ∷ 10 ∷ [])

-- how it is handed over to the command that shows it: the mark twice, the line, and the mark
abbrev pub handed_text : List ℕ → PairLine → List ℕ
handed_text mark line = mark ++ (mark ++ (codes "pair: " ++ (line_text line ++ mark)))

-- how it is told, by that mark
abbrev pub told_as : List ℕ → PairLine → List ℕ
told_as mark line = if length mark == 0 then shown_text line else handed_text mark line
