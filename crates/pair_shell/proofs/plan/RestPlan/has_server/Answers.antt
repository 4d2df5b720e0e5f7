-- Somebody serves if a node is found, and nobody if none is.
use Rattle.std.proofs.Common.{sym, ◌∙◌, ap}
use Rattle.std.specs.Prelude.{is_some}
use Rattle.pair_protocol.specs.Settled.{highest}
use Rattle.pair_shell.proofs.Others.{no_node, nobody, some_node, somebody}
use Rattle.pair_shell.proofs.plan.RestPlan.has_server.Goals as goal

pub returns-clause-some : goal.returns-clause-some
returns-clause-some g c = λ course h is.
    somebody course.world (highest course.world.nodes) c.who_serves.result (c.who_serves.ensures.serves course h)
    (some_node c.who_serves.result (ap is_some (sym c.node.ensures) ∙ sym c.is_some.ensures ∙ is))

pub returns-clause-nobody : goal.returns-clause-nobody
returns-clause-nobody g c = λ course h is.
    nobody course.world c.args.self.now.hosts (highest course.world.nodes) c.who_serves.result
    (c.who_serves.ensures.all course h)
    (no_node c.who_serves.result (ap is_some (sym c.node.ensures) ∙ sym c.is_some.ensures ∙ is))
