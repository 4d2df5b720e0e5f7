use Rattle.pair_rule.proofs.KeptSteps.{kept_steps}
use Rattle.pair_rule.proofs.laws.kept_steps_are_threads.Goals as goal

pub returns : goal.returns
returns g c = record { threads = kept_steps }
