use Rattle.pair_rule.proofs.TableSteps.{table_steps}
use Rattle.pair_rule.proofs.laws.table_steps_are_steps.Goals as goal

pub returns : goal.returns
returns g c = record { steps = table_steps }
