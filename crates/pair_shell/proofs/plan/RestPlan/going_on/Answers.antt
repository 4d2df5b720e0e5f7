-- Each event is one that the rules refuse of nobody.
use Rattle.std.proofs.Common.{subst, sym}
use Rattle.ft_world.specs.Standing.{machine_of}
use Rattle.pair_protocol.specs.Node.{Draining}
use Rattle.pair_shell.specs.Allowed.{IsPartOf}
use Rattle.pair_shell.specs.Ending.{MayRest}
use Rattle.pair_shell.specs.Serves.{ActsAndMayServe, Serves}
use Rattle.pair_shell.proofs.Allowed.{backup_asks, primary_asks}
use Rattle.pair_shell.proofs.Each.{each_ok, each_some, when_ok}
use Rattle.pair_shell.proofs.PairEvents.{part_goes_so}
use Rattle.pair_shell.proofs.plan.RestPlan.going_on.Goals as goal

pub returns-in-Primary-clause-allowed : goal.returns-in-Primary-clause-allowed
returns-in-Primary-clause-allowed g c = λ course h generation serves asks.
    primary_asks (machine_of g.B.Lockstep.machine course) course.copying course.world c.in-Primary.node generation
    (subst (Serves course.world generation) c.in-Primary.is serves)

pub returns-in-Backup-clause-allowed : goal.returns-in-Backup-clause-allowed
returns-in-Backup-clause-allowed g c = λ course h generation serves asks.
    backup_asks (machine_of g.B.Lockstep.machine course) course.copying course.world c.in-Backup.node generation
    (subst (Serves course.world generation) c.in-Backup.is serves)

pub returns-in-Draining-clause-allowed : goal.returns-in-Draining-clause-allowed
returns-in-Draining-clause-allowed g c = λ course h generation serves asks.
    let winner : ActsAndMayServe course.world c.in-Draining.node Draining generation =
    subst (Serves course.world generation) c.in-Draining.is serves in
    c.draining.ensures.allowed course h generation winner.acts

pub returns-in-Alone-clause-allowed : goal.returns-in-Alone-clause-allowed
returns-in-Alone-clause-allowed g c =
    each_some _ _ c.completing.result
    (λ event allowed. λ course h generation serves asks. allowed course h generation (subst (Serves course.world generation) c.in-Alone.is serves)
    asks.responds)
    c.completing.ensures.allowed

pub returns-in-Joining-clause-allowed : goal.returns-in-Joining-clause-allowed
returns-in-Joining-clause-allowed g c =
    each_some (IsPartOf c.in-Joining.node c.args.self.now.parts) _ c.sending_part.result
    (λ event is. λ course h generation serves asks.
    part_goes_so (machine_of g.B.Lockstep.machine course) course.copying h.machine.lawful h.machine.copies course.world h.reached
    c.in-Joining.node c.in-Joining.host generation (subst (Serves course.world generation) c.in-Joining.is serves) c.args.self.now.parts event asks.has_parts is)
    c.sending_part.ensures.part

pub returns-in-Pair-clause-allowed : goal.returns-in-Pair-clause-allowed
returns-in-Pair-clause-allowed g c =
    each_ok _ _ c.paired.result
    (λ event allowed. λ course h generation serves asks.
    allowed course h generation (subst (Serves course.world generation) c.in-Pair.is serves) asks.responds asks.has_indexes)
    c.paired.ensures.allowed

pub returns-in-Nobody-clause-rests : goal.returns-in-Nobody-clause-rests
returns-in-Nobody-clause-rests g c = λ none course h generation serves.
    subst (MayRest g.B.Lockstep.machine course.world c.args.self.now.parts c.args.self.now.arrived generation) (sym c.in-Nobody.is) tt

pub returns-in-Alone-clause-rests : goal.returns-in-Alone-clause-rests
returns-in-Alone-clause-rests g c = λ none course h generation serves.
    subst (MayRest g.B.Lockstep.machine course.world c.args.self.now.parts c.args.self.now.arrived generation) (sym c.in-Alone.is)
    (c.completing.ensures.rests none course h)

pub returns-in-Joining-clause-rests : goal.returns-in-Joining-clause-rests
returns-in-Joining-clause-rests g c = λ none course h generation serves.
    subst (MayRest g.B.Lockstep.machine course.world c.args.self.now.parts c.args.self.now.arrived generation) (sym c.in-Joining.is)
    (c.sending_part.ensures.rests none)

pub returns-in-Pair-clause-rests : goal.returns-in-Pair-clause-rests
returns-in-Pair-clause-rests g c =
    when_ok _ _ c.paired.result
    (λ next rests. λ none course h generation serves.
    subst (MayRest g.B.Lockstep.machine course.world c.args.self.now.parts c.args.self.now.arrived generation) (sym c.in-Pair.is) (rests none course h generation))
    c.paired.ensures.rests
