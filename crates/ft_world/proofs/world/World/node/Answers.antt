-- The node of a number shows what it is in the world that is shown.
use Rattle.ft_world.proofs.world.World.node.Goals as goal

pub returns : goal.returns
returns g c =
    rw (← c.self.view_is) (λ course h. c.status.ensures course.copying h.drives course.world.nodes h.parts.hosts)
