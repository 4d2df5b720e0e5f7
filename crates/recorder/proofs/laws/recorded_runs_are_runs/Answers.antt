use Rattle.guest_lockstep.proofs.Moves.{recorded-runs}
use Rattle.recorder.proofs.Recorded.{count-Recorded}
use Rattle.recorder.proofs.laws.recorded_runs_are_runs.Goals as goal

pub returns-clause-runs : goal.returns-clause-runs
returns-clause-runs g c = λ M s t moves r. recorded-runs M s t moves r

pub returns-clause-count : goal.returns-clause-count
returns-clause-count g c = λ M s t moves counts r. count-Recorded M s t moves counts r
