-- What happens to the lines that are handed in.
use Rattle.std.specs.Prelude.{◌≡◌, ℕ, Option, List, IfSome, string_bytes}
use Rattle.std.specs.Fmt.{with_newline}
use Rattle.std.specs.Io.KnownBytes.{Appends, append_known}
use Rattle.command_io.specs.declared.report.LineReport.{LineReport}

-- all that was handed in: what the writer holds, if that is known, and then what is gathered for it
abbrev pub handed : Option (List ℕ) → LineReport → Option (List ℕ)
handed contents report = append_known contents (string_bytes report.lines)

-- one more line was handed in, with the text of what is shown
pub record AddsLine (shown old new : Option (List ℕ)) : Type 0 where
  pub line : List ℕ
  pub is_shown : IfSome (with_newline shown) (λ bytes. line ≡ bytes)
  pub added : Appends old new line
