-- Step by step.
use Rattle.host_progress.proofs.Happening.{happens}
use Rattle.host_progress.proofs.laws.lists_of_steps_are_runs.Goals as goal

pub returns : goal.returns
returns g c = happens
