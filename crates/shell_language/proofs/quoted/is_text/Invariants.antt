-- What is left is a text if all of it was; each character shortens it.
use Rattle.std.proofs.Common.{◌≡◌, length}
use Rattle.std.specs.Prelude.{is_some}
use Rattle.shell_language.specs.Quoting.{text_in}
use Rattle.shell_language.proofs.quoted.is_text.Given as goal

abbrev pub invariant-characters : goal.invariant-characters
invariant-characters l = is_some (text_in l.rest) ≡ is_some (text_in l.initial.rest)

abbrev pub decreases-characters : goal.decreases-characters
decreases-characters l = length l.rest
