-- The node of a number is as far as it is in the world that is shown.
use Rattle.ft_world.proofs.world.World.standing.Goals as goal

pub returns : goal.returns
returns g c =
    rw (← c.self.view_is) (λ course h. c.standing.ensures course.copying h.drives course.world.nodes h.parts.hosts)
