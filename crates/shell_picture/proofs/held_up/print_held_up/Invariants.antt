-- The refusals so far are told, if they hold something up.
use Rattle.std.proofs.Common.{take}
use Rattle.std.specs.List.{flat_map}
use Rattle.shell_language.specs.Refusals.{refusals}
use Rattle.shell_language.specs.Texts.{Prints}
use Rattle.shell_picture.specs.HeldUp.{held_of}
use Rattle.shell_picture.proofs.held_up.print_held_up.Given as goal

abbrev pub invariant-loop-fault : goal.invariant-loop-fault
invariant-loop-fault l = Prints (flat_map (held_of l.tape l.book) (take l.fault-index refusals)) l.initial.printed l.printed
