-- An event that tells nothing leaves the role.
use Rattle.std.proofs.Common.{rules}
use Rattle.shell_picture.proofs.Rows.{told_nothing}
use Rattle.shell_picture.proofs.roles.node_role.Goals as goal

pub events-preserved : goal.events-preserved
events-preserved c =
    told_nothing c.args.moments.now c.args.node c.events.before c.told_at-told.result _ c.events-test.true c.told_at-told.ensures
    (search rules) c.events.invariant
