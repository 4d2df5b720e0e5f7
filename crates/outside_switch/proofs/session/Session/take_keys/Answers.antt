-- The keys of both ports were typed.
use Rattle.outside_switch.proofs.TurnsGoing.{and_then}
use Rattle.outside_switch.proofs.session.Session.take_keys.Goals as goal

pub returns : goal.returns
returns g c =
    and_then _ _ _ (and_then _ _ _ c.type_first-has_first.ensures c.type_second-has_second.ensures) c.see_move.ensures
