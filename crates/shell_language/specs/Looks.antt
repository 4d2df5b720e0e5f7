-- The lines that look at the machine of a node: the words after the first, and what they say.
use Rattle.std.specs.Prelude.{ℕ, List, [], ◌∷◌, Option, Some}
use Rattle.script_language.specs.Words.{Reader, ◌>>=◌}
use Rattle.script_language.specs.Grammar.{address, bad, between, number, says}
use Rattle.shell_language.specs.declared.line.ShellLine.{ShellLine}
use Rattle.shell_language.specs.declared.line.ShellLine.TheVariants as shell
use Rattle.shell_language.specs.declared.look.Span.{Span}
use Rattle.shell_language.specs.declared.look.View.TheVariants as view
use Rattle.shell_language.specs.declared.own.OwnWord.{OwnWord}
use Rattle.shell_language.specs.declared.own.OwnWord.TheVariants as own

-- K: a number from 1 to the greatest, or no more words, which say the usual number
abbrev pub many : {X : Type 0} → ℕ → ℕ → (ℕ → Reader X) → Reader X
many usual greatest next [] = next usual []
many usual greatest next (word ∷ words) = between 1 greatest next (word ∷ words)

-- AAAA [K]
abbrev pub span_of : ℕ → ℕ → Reader Span
span_of usual greatest = address (λ from. many usual greatest (λ count. says (record { from = from; count = count })))

-- `regs N`, `look N AAAA [K]` and `dis N AAAA [K]`
abbrev pub look_of : OwnWord → Reader ShellLine
look_of own.Registers = number (λ node. says (shell.Look (record { node = node; view = view.Registers })))
look_of own.Memory = number (λ node words. span_of 16 256 words >>= λ span.
    Some (shell.Look (record { node = node; view = view.Memory span.0 }), span.1))
look_of own.Listing = number (λ node words. span_of 8 64 words >>= λ span.
    Some (shell.Look (record { node = node; view = view.Listing span.0 }), span.1))
look_of other = bad
