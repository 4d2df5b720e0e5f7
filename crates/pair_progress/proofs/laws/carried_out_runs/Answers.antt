-- Each is a row of the run, and none of them is a refusal.
use Rattle.pair_progress.proofs.Answered.{carried_runs}
use Rattle.pair_progress.proofs.laws.carried_out_runs.Goals as goal

pub returns : goal.returns
returns g c = record { runs = carried_runs }
