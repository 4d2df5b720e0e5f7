-- The words so far name these drives.
use Rattle.std.proofs.Common.{◌≡◌, map, take}
use Rattle.command_line.specs.Orders.{drive_of}
use Rattle.command_line.proofs.options.drives_of.Given as goal

abbrev pub invariant-loop-word : goal.invariant-loop-word
invariant-loop-word l = l.drives.items ≡ map drive_of (map (λ word. word.now) (take l.word-index l.words))
