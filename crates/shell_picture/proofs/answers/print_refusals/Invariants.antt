-- The refusals so far are printed.
use Rattle.std.proofs.Common.{take}
use Rattle.std.specs.List.{flat_map}
use Rattle.shell_language.specs.Refusals.{refusals}
use Rattle.shell_language.specs.Texts.{Prints}
use Rattle.shell_picture.specs.Answers.{refusal_row}
use Rattle.shell_picture.proofs.answers.print_refusals.Given as goal

abbrev pub invariant-loop-fault : goal.invariant-loop-fault
invariant-loop-fault l = Prints (flat_map refusal_row (take l.fault-index refusals)) l.initial.printed l.printed
