-- The switch went on so far.
use Rattle.outside_switch.specs.LoopRuns.{Went}
use Rattle.outside_switch.proofs.serving.serve.Given as goal

abbrev pub invariant-loop : goal.invariant-loop
invariant-loop g l = Went l.fn.session l.session
