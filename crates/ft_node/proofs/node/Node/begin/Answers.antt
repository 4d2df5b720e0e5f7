-- An alone node is taken out, and what it becomes is put in its place.
use Rattle.std.proofs.Common.{subst, sym, ◌∙◌}
use Rattle.ft_node.specs.Calls.{BeginsPair}
use Rattle.ft_node.specs.AnyNode.{IsNode}
use Rattle.ft_node.proofs.node.Node.begin.Goals as goal

pub returns-in-Alone-clause-answer : goal.returns-in-Alone-clause-answer
returns-in-Alone-clause-answer g c = λ C drives x copies keys is.
    let M = g.B.Lockstep.machine in
    let state = g.B.Lockstep.state in
    subst (λ node. BeginsPair M x c.begun-result.result.0 (IsNode state M C drives node)) (sym c.become_node.ensures)
    (c.begun-result.ensures.answer C drives x copies keys
    (subst (λ node. IsNode state M C drives node x) (sym c.take_out.ensures ∙ c.in-Alone.is) is))
