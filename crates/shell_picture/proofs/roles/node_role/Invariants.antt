-- The events after this one tell nothing.
use Rattle.std.proofs.Common.{◌≡◌}
use Rattle.shell_picture.specs.Pictures.{node_role}
use Rattle.shell_picture.proofs.roles.node_role.Given as goal

abbrev pub invariant-events : goal.invariant-events
invariant-events l = node_role l.moments l.node l.before ≡ node_role l.moments l.node l.count

abbrev pub decreases-events : goal.decreases-events
decreases-events l = l.before
