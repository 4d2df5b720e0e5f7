-- The characters so far and those that are left are all; each character shortens what is left.
use Rattle.std.proofs.Common.{◌≡◌, length}
use Rattle.shell_language.specs.Quoting.{text_in}
use Rattle.shell_language.proofs.Quoting.{with_front}
use Rattle.shell_language.proofs.quoted.characters_of.Given as goal

abbrev pub invariant-characters : goal.invariant-characters
invariant-characters l = with_front l.bytes.items (text_in l.rest) ≡ text_in l.initial.rest

abbrev pub decreases-characters : goal.decreases-characters
decreases-characters l = length l.rest
