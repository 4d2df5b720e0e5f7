-- The furthest of the forms so far, and of those that are left, is that of all.
use Rattle.std.proofs.Common.{◌≡◌, length, map}
use Rattle.shell_language.specs.Forms.{shape_of}
use Rattle.shell_language.specs.Mistakes.{Unknown, at, furthest_in}
use Rattle.shell_language.proofs.form.mistake_among.Given as goal

abbrev pub invariant-forms : goal.invariant-forms
invariant-forms l = furthest_in (map shape_of l.rest) l.first l.words (at l.furthest)
    ≡ furthest_in (map shape_of l.forms) l.first l.words (0, Unknown l.first)

abbrev pub decreases-forms : goal.decreases-forms
decreases-forms l = length l.rest
