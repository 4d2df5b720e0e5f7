-- One operation after another is completed.
use Rattle.pair_progress.proofs.Resting.{completes_all, completes_soon}
use Rattle.pair_progress.proofs.laws.live_nodes_complete.Goals as goal

pub returns-clause-completes : goal.returns-clause-completes
returns-clause-completes g c = completes_all

pub returns-clause-soon : goal.returns-clause-soon
returns-clause-soon g c = completes_soon
