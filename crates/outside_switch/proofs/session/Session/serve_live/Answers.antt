-- The live host was sent keys, asked what its machine has, and told to begin.
use Rattle.outside_switch.proofs.TurnsGoing.{and_then}
use Rattle.outside_switch.proofs.session.Session.serve_live.Goals as goal

pub returns-then-eq : goal.returns-then-eq
returns-then-eq g c =
    and_then _ _ _ (and_then _ _ _ (and_then _ _ _ c.see_live.ensures.went c.send_keys.ensures) c.inspect.ensures) c.begin.ensures

pub returns-else-eq : goal.returns-else-eq
returns-else-eq g c =
    and_then _ _ _ (and_then _ _ _ c.see_live.ensures.went c.send_keys.ensures) c.inspect.ensures
