-- The host at hand has the role.
use Rattle.pair_shell.proofs.serving.find.Goals as goal

pub returns-then-has_role-clause-some : goal.returns-then-has_role-clause-some
returns-then-has_role-clause-some g c = λ course h. c.has_role.ensures.has course h c.if-has_role.true
