-- A winner asks the disk if it may, and drains if not.
use Rattle.std.proofs.Common.{sym, ◌∙◌}
use Rattle.ft_world.specs.Standing.{machine_of}
use Rattle.pair_shell.proofs.Allowed.{drains, fetches}
use Rattle.pair_shell.proofs.repeating.draining.Goals as goal

pub returns-then-may_fetch-clause-allowed : goal.returns-then-may_fetch-clause-allowed
returns-then-may_fetch-clause-allowed g c = λ course h generation acts.
    fetches (machine_of g.B.Lockstep.machine course) course.copying course.world c.args.node
    (sym c.if-may_fetch.true ∙ c.may_fetch.ensures course h)

pub returns-clause-allowed : goal.returns-clause-allowed
returns-clause-allowed g c = λ course h generation acts.
    drains (machine_of g.B.Lockstep.machine course) course.copying course.world c.args.node c.saturating_add-turns.result
    generation acts
