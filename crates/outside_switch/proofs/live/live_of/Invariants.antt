-- Whoever was found is live.
use Rattle.std.proofs.Common.{IfSome}
use Rattle.outside_switch.specs.LoopRuns.{IsLive}
use Rattle.outside_switch.proofs.live.live_of.Given as goal

abbrev pub invariant-loop-place : goal.invariant-loop-place
invariant-loop-place l = IfSome l.found (IsLive l.fn.lines)
