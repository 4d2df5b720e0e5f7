-- What is wrong with the words that are left is wrong with all.
use Rattle.std.proofs.Common.{◌≡◌, ◌-◌, length}
use Rattle.shell_language.specs.Forms.{shape_of}
use Rattle.shell_language.specs.Mistakes.{wrong_byte}
use Rattle.shell_language.proofs.form.Form.wrong_byte.Given as goal

abbrev pub invariant-bytes : goal.invariant-bytes
invariant-bytes l = wrong_byte (shape_of l.form) l.most l.left l.place l.words
    ≡ wrong_byte (shape_of l.form) l.most (l.most - 1) l.first l.fn.words

abbrev pub decreases-bytes : goal.decreases-bytes
decreases-bytes l = length l.words
