-- A part that is taken back leaves the generation as it was.
use Rattle.std.proofs.Common.{ap, ◌∙◌}
use Rattle.clone_state.specs.Assembly.{Gathering}
use Rattle.ft_node.proofs.Gatherings.{forgetting_keeps}
use Rattle.ft_node.proofs.joining.Joining.become_backup.Goals as goal

pub new-joining-requires-clause-generation : goal.new-joining-requires-clause-generation
new-joining-requires-clause-generation g c =
    ap (λ (g : Gathering). g.generation) c.forget.ensures
    ∙ forgetting_keeps c.in-Err.assembly c.args.bytes.now
    ∙ ap (λ (g : Gathering). g.generation) c.in-Err.ensures.back.0 ∙ c.self.invariant.1
