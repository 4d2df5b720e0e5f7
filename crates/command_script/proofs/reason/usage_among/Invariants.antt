-- The first of the forms that are left is that of all.
use Rattle.std.proofs.Common.{◌≡◌, length, map}
use Rattle.shell_language.specs.Forms.{shape_of}
use Rattle.command_script.specs.Reasons.{usage_in}
use Rattle.command_script.proofs.reason.usage_among.Given as goal

abbrev pub invariant-forms : goal.invariant-forms
invariant-forms l = usage_in (map shape_of l.rest) l.word ≡ usage_in (map shape_of l.forms) l.word

abbrev pub decreases-forms : goal.decreases-forms
decreases-forms l = length l.rest
