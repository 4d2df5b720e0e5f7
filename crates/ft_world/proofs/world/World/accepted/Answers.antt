-- A screen shows what its terminal has.
use Rattle.std.proofs.Common.{◌∙◌}
use Rattle.ft_world.proofs.Reading.{accepted_is}
use Rattle.ft_world.proofs.world.World.accepted.Goals as goal

pub returns : goal.returns
returns g c =
    rw (← c.self.view_is)
    (λ course h. c.accepted.ensures ∙ accepted_is c.self.inside.pair.terminals course.world.terminals c.args.port h.parts.terminals)
