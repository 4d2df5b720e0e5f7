-- What is counted so far has come.
use Rattle.outside_switch.proofs.session.Session.hear_host.Goals as goal

pub hear_next-requires : goal.hear_next-requires
hear_next-requires g c = c.loop.invariant.counted c.requires
