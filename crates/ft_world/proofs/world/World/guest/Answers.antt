-- The node of a number shows the machine that it has in the world that is shown.
use Rattle.ft_world.proofs.world.World.guest.Goals as goal

pub returns : goal.returns
returns g c =
    rw (← c.self.view_is) (λ course h. c.guest.ensures course.copying h.drives course.world.nodes h.parts.hosts)
