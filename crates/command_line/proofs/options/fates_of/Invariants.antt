-- The words so far have their fates.
use Rattle.std.proofs.Common.{◌≡◌, map, take}
use Rattle.command_line.specs.Orders.{fate_of}
use Rattle.command_line.proofs.options.fates_of.Given as goal

abbrev pub invariant-loop-word : goal.invariant-loop-word
invariant-loop-word l = l.fates.items ≡ map fate_of (map (λ word. word.now) (take l.word-index l.words))
