-- One turn more.
use Rattle.outside_switch.proofs.TurnsGoing.{and_then}
use Rattle.outside_switch.proofs.serving.serve.Goals as goal

pub turn-is_busy-requires : goal.turn-is_busy-requires
turn-is_busy-requires g c = c.loop.invariant.counted c.requires

pub returns-in-Some-end-clause-went : goal.returns-in-Some-end-clause-went
returns-in-Some-end-clause-went g c =
    and_then _ _ _ (and_then _ _ _ c.loop.invariant c.turn-is_busy.ensures) c.end.ensures.went

pub loop-preserved-then-is_busy : goal.loop-preserved-then-is_busy
loop-preserved-then-is_busy g c =
    and_then _ _ _ (and_then _ _ _ c.loop.invariant c.turn-is_busy.ensures) c.end.ensures.went

pub loop-preserved : goal.loop-preserved
loop-preserved g c =
    and_then _ _ _ (and_then _ _ _ c.loop.invariant c.turn-is_busy.ensures) c.end.ensures.went
