-- One after another.
use Rattle.outside_switch.proofs.TurnsGoing.{and_then}
use Rattle.outside_switch.proofs.session.Session.turn.Goals as goal

pub hear_all-has_bodies-requires : goal.hear_all-has_bodies-requires
hear_all-has_bodies-requires g c =
    (and_then _ _ _ (and_then _ _ _ c.see_stop.ensures c.see_fate.ensures) c.take_keys-has_keys.ensures).counted c.requires

pub returns-then-has_keys : goal.returns-then-has_keys
returns-then-has_keys g c =
    and_then _ _ _ (and_then _ _ _ (and_then _ _ _ (and_then _ _ _ (and_then _ _ _ (and_then _ _ _ (and_then _ _ _ c.see_stop.ensures
    c.see_fate.ensures) c.take_keys-has_keys.ensures) c.hear_all-has_bodies.ensures) c.see_left.ensures) c.see_sight.ensures)
    c.serve_live.ensures) c.tick.ensures.went

pub returns-else-has_keys : goal.returns-else-has_keys
returns-else-has_keys g c =
    and_then _ _ _ (and_then _ _ _ (and_then _ _ _ (and_then _ _ _ (and_then _ _ _ (and_then _ _ _ (and_then _ _ _ c.see_stop.ensures
    c.see_fate.ensures) c.take_keys-has_keys.ensures) c.hear_all-has_bodies.ensures) c.see_left.ensures) c.see_sight.ensures)
    c.serve_live.ensures) c.tick.ensures.went
