-- The arbiter's winners are the world's.
use Rattle.std.proofs.Common.{◌∙◌}
use Rattle.ft_world.proofs.world.World.winner.Goals as goal

pub returns : goal.returns
returns g c =
    rw (← c.self.view_is) (λ course h. c.winner.ensures ∙ h.parts.winners c.args.generation)
