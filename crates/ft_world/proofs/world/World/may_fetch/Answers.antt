-- A node of the world that is shown asks the disk for a sector if nothing refuses that.
use Rattle.std.proofs.Common.{◌∙◌}
use Rattle.ft_world.proofs.Asking.{would_give}
use Rattle.ft_world.proofs.AtHosts.{asks_nobody, asks_node}
use Rattle.ft_world.proofs.Words.{Wants, fetch_refusal}
use Rattle.ft_world.proofs.world.World.may_fetch.Goals as goal

pub returns-in-Ok : goal.returns-in-Ok
returns-in-Ok g c =
    rw (← c.self.view_is)
    (λ course h.
    c.is_ok.ensures.value
    ∙ would_give course.world c.args.node (fetch_refusal g.B.Lockstep.machine) (Wants g.B.Lockstep.machine) c.wanted.result
    (asks_node h c.in-Ok.ensures.found c.wanted.ensures))

pub returns-in-Err : goal.returns-in-Err
returns-in-Err g c =
    rw (← c.self.view_is)
    (λ course h.
    would_give course.world c.args.node (fetch_refusal g.B.Lockstep.machine) (Wants g.B.Lockstep.machine) _
    (asks_nobody h c.in-Err.ensures.absent.0 c.in-Err.ensures.absent.1))
