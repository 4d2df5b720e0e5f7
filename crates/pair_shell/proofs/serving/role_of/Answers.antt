-- What a node shows of itself.
use Rattle.std.proofs.Common.{subst, sym}
use Rattle.pair_shell.specs.Serves.{IsRoleIn}
use Rattle.pair_shell.proofs.Others.{no_role, other_generation}
use Rattle.pair_shell.proofs.Servers.{shows_role}
use Rattle.pair_shell.proofs.serving.role_of.Goals as goal

pub returns-in_err-status : goal.returns-in_err-status
returns-in_err-status g c = λ course h.
    subst (IsRoleIn course.world c.args.node c.args.generation) (sym c.from_residual.ensures)
    (no_role g.B.Lockstep.machine course.world c.args.node c.args.generation (c.in_err-status.ensures course h))

pub returns-then-status-generation : goal.returns-then-status-generation
returns-then-status-generation g c = λ course h.
    shows_role g.B.Lockstep.machine course.world c.args.node c.args.generation c.in_ok-status.status
    (c.in_ok-status.ensures course h) c.if-status-generation.true

pub returns-else-status-generation : goal.returns-else-status-generation
returns-else-status-generation g c = λ course h.
    other_generation g.B.Lockstep.machine course.world c.args.node c.args.generation c.in_ok-status.status
    (c.in_ok-status.ensures course h) c.if-status-generation.false
