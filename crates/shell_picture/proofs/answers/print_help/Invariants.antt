-- The forms so far are printed.
use Rattle.std.proofs.Common.{take}
use Rattle.std.specs.List.{flat_map}
use Rattle.shell_language.specs.Forms.{shapes}
use Rattle.shell_language.specs.Texts.{Prints}
use Rattle.shell_picture.specs.Answers.{help_row}
use Rattle.shell_picture.proofs.answers.print_help.Given as goal

abbrev pub invariant-loop-form : goal.invariant-loop-form
invariant-loop-form l = Prints (flat_map help_row (take l.form-index shapes)) l.initial.printed l.printed
