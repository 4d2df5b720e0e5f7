-- A node of the world that is shown releases an operation if nothing refuses that.
use Rattle.std.proofs.Common.{◌∙◌}
use Rattle.ft_world.proofs.Asking.{would_give}
use Rattle.ft_world.proofs.AtHosts.{asks_nobody, asks_node}
use Rattle.ft_world.proofs.Words.{HasOutstanding, release_refusal}
use Rattle.ft_world.proofs.world.World.may_release.Goals as goal

pub returns-in-Ok : goal.returns-in-Ok
returns-in-Ok g c =
    rw (← c.self.view_is)
    (λ course h.
    c.is_ok.ensures.value
    ∙ would_give course.world c.args.node (release_refusal g.B.Lockstep.machine c.args.id)
    (HasOutstanding g.B.Lockstep.machine c.args.id) c.release.result
    (asks_node h c.in-Ok.ensures.found c.release.ensures))

pub returns-in-Err : goal.returns-in-Err
returns-in-Err g c =
    rw (← c.self.view_is)
    (λ course h.
    would_give course.world c.args.node (release_refusal g.B.Lockstep.machine c.args.id)
    (HasOutstanding g.B.Lockstep.machine c.args.id) _ (asks_nobody h c.in-Err.ensures.absent.0 c.in-Err.ensures.absent.1))
