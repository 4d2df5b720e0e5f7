-- What is wrong with the words that are left, for the kinds that are left, is wrong with all.
use Rattle.std.proofs.Common.{◌≡◌, length, map}
use Rattle.shell_language.specs.Forms.{shape_of, word_of}
use Rattle.shell_language.specs.Mistakes.{misfit, misfit_in}
use Rattle.shell_language.proofs.form.Form.first_wrong.Given as goal

abbrev pub invariant-kinds : goal.invariant-kinds
invariant-kinds l =
    misfit_in (shape_of l.form) (map word_of l.rest) l.place l.words ≡ misfit l.fn.words (shape_of l.form)

abbrev pub decreases-kinds : goal.decreases-kinds
decreases-kinds l = length l.rest
