-- The assembly is for the drives of this generation, and the inputs are a copy.
use Rattle.std.proofs.Common.{ap, refl}
use Rattle.clone_state.specs.Assembly.{Gathering}
use Rattle.ft_world.proofs.joining.opened.Goals as goal

pub returns-clause-ok : goal.returns-clause-ok
returns-clause-ok c = record {
  generation = refl;
  drives_are = ap (λ (g : Gathering). g.drives) c.in_ok-assembly.ensures.ok;
  reads_are = refl;
  same_inputs = c.in_ok-inputs.ensures.ok;
  same_count = refl;
}
