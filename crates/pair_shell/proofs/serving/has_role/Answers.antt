-- A node that shows this role has it, and any other has not.
use denote.Enum.Bare.{same_false, same_true}
use Rattle.std.proofs.Common.{rules, subst, sym, Some, ◌≡◌, ◌∙◌}
use Rattle.pair_events.specs.contracts.reply.Role.{the_type}
use Rattle.pair_shell.specs.Serves.{IsRoleIn}
use Rattle.pair_shell.proofs.Others.{no_such_role, other_role}
use Rattle.pair_shell.proofs.serving.has_role.Goals as goal

pub returns-in-Some-clause-has : goal.returns-in-Some-clause-has
returns-in-Some-clause-has g c = λ course h is.
    let same : c.in-Some.its ≡ c.args.role = same_true the_type (search rules) _ _ (sym c.eq.ensures ∙ is) in
    subst (λ role. IsRoleIn course.world c.args.node c.args.generation (Some role)) same (c.in-Some.ensures course h)

pub returns-in-Some-clause-other : goal.returns-in-Some-clause-other
returns-in-Some-clause-other g c = λ course h is.
    other_role course.world c.args.node c.args.generation c.in-Some.its c.args.role (c.in-Some.ensures course h)
    (same_false the_type _ _ (sym c.eq.ensures ∙ is))

pub returns-in-None-clause-other : goal.returns-in-None-clause-other
returns-in-None-clause-other g c = λ course h is.
    no_such_role course.world c.args.node c.args.generation c.args.role (c.in-None.ensures course h)
