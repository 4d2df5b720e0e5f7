-- An entry that the backup lacks is sent, or what it holds is repeated.
use Rattle.ft_world.specs.Standing.{machine_of}
use Rattle.std.proofs.Common.{ap}
use Rattle.ft_node.specs.declared.ran.Standing.{Standing}
use Rattle.pair_shell.proofs.PairEvents.{entry_goes}
use Rattle.pair_shell.proofs.Endings.{through}
use Rattle.pair_shell.proofs.plan.catching_up.Goals as goal

pub returns-then-held-log-clause-allowed : goal.returns-then-held-log-clause-allowed
returns-then-held-log-clause-allowed g c = λ course h generation pair.
    entry_goes (machine_of g.B.Lockstep.machine course) course.copying h.machine.lawful h.machine.copies course.world h.reached
    c.args.node c.args.backup generation pair c.standing_of-held.result.entries c.standing_of-log.result.entries
    (ap (λ (s : Standing). s.entries) (c.standing_of-held.ensures course h))
    (ap (λ (s : Standing). s.entries) (c.standing_of-log.ensures course h)) c.if-held-log.true

pub returns-then-held-clause-kind : goal.returns-then-held-clause-kind
returns-then-held-clause-kind g c = c.replaying.ensures.kind c.args.node

pub returns-then-held-clause-allowed : goal.returns-then-held-clause-allowed
returns-then-held-clause-allowed g c = λ course h generation pair.
    c.replaying.ensures.allowed course h c.args.node generation pair

pub returns-clause-rests : goal.returns-clause-rests
returns-clause-rests g c = λ none course h generation pair.
    through (machine_of g.B.Lockstep.machine course) course.copying course.world c.args.node c.args.backup generation pair
    c.standing_of-log.result c.standing_of-held.result (c.standing_of-log.ensures course h)
    (c.standing_of-held.ensures course h) c.if-held-log.false c.if-log.false
