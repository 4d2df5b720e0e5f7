-- A part of an image arrives at the host that joins.
use Rattle.std.proofs.Common.{subst, sym}
use Rattle.std.specs.Option.{IsSome}
use Rattle.std.specs.Prelude.{IfSome}
use Rattle.pair_shell.specs.Arriving.{IsTakenBy}
use Rattle.pair_shell.specs.Serves.{MayCome}
use Rattle.pair_shell.proofs.plan.arrival.Goals as goal

pub returns-in-Joining-clause-kind : goal.returns-in-Joining-clause-kind
returns-in-Joining-clause-kind c =
    subst (λ who. IfSome c.arrival_of_part.result (MayCome who)) (sym c.in-Joining.is)
    (c.arrival_of_part.ensures.kind c.in-Joining.node)

pub returns-in-Joining-clause-taken : goal.returns-in-Joining-clause-taken
returns-in-Joining-clause-taken c =
    subst (λ who. IsTakenBy who c.args.sent.now → IsSome c.arrival_of_part.result) (sym c.in-Joining.is)
    (c.arrival_of_part.ensures.taken c.in-Joining.node)
