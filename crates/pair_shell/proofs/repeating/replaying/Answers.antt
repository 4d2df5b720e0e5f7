-- A backup asks the disk if it may, and repeats what it holds if not.
use Rattle.std.proofs.Common.{sym, ◌∙◌}
use Rattle.ft_world.specs.Standing.{machine_of}
use Rattle.pair_shell.proofs.Allowed.{fetches}
use Rattle.pair_shell.proofs.PairEvents.{backup_replays}
use Rattle.pair_shell.proofs.repeating.replaying.Goals as goal

pub returns-then-may_fetch-clause-allowed : goal.returns-then-may_fetch-clause-allowed
returns-then-may_fetch-clause-allowed g c = λ course h primary generation pair.
    fetches (machine_of g.B.Lockstep.machine course) course.copying course.world c.args.node
    (sym c.if-may_fetch.true ∙ c.may_fetch.ensures course h)

pub returns-clause-allowed : goal.returns-clause-allowed
returns-clause-allowed g c = λ course h primary generation pair.
    backup_replays (machine_of g.B.Lockstep.machine course) course.copying course.world primary c.args.node generation pair
    c.moves_left-turns.result
