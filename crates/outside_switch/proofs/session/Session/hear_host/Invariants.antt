-- The switch went on so far.
use Rattle.outside_switch.specs.LoopRuns.{Went}
use Rattle.outside_switch.proofs.session.Session.hear_host.Given as goal

abbrev pub invariant-loop : goal.invariant-loop
invariant-loop g l = Went l.fn.self l.self
