-- A part leaves the generation as it was.
use Rattle.std.proofs.Common.{ap, ◌∙◌}
use Rattle.clone_state.specs.Assembly.{Gathering}
use Rattle.ft_node.proofs.Gatherings.{part_keeps}
use Rattle.ft_node.proofs.joining.Joining.gather.Goals as goal

pub invariant_of-self : goal.invariant_of-self
invariant_of-self g c = (
  c.self.invariant.0,
  ap (λ (g : Gathering). g.generation) c.part.ensures.after
      ∙ part_keeps c.self.inside.assembly c.args.bytes.now ∙ c.self.invariant.1,
)
