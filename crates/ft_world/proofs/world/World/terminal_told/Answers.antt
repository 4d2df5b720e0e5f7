-- A screen shows what its terminal has.
use Rattle.std.proofs.Common.{◌∙◌}
use Rattle.ft_world.proofs.Reading.{told_is}
use Rattle.ft_world.proofs.world.World.terminal_told.Goals as goal

pub returns : goal.returns
returns g c =
    rw (← c.self.view_is)
    (λ course h. c.told.ensures ∙ told_is c.self.inside.pair.terminals course.world.terminals c.args.port h.parts.terminals)
