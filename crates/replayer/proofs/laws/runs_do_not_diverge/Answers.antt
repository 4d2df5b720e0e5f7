use Rattle.replayer.proofs.OneMove.{runs_do_not_diverge}
use Rattle.replayer.proofs.laws.runs_do_not_diverge.Goals as goal

pub returns : goal.returns
returns g c = runs_do_not_diverge
