-- What is counted so far has come.
use Rattle.outside_switch.proofs.session.Session.hear_all.Goals as goal

pub hear_host-has_heard-requires : goal.hear_host-has_heard-requires
hear_host-has_heard-requires g c = c.loop-place.invariant.counted c.requires
