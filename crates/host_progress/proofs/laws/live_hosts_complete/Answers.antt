-- One operation after another is completed.
use Rattle.host_progress.proofs.Recovering.{recovers}
use Rattle.host_progress.proofs.Resting.{completes_all, completes_soon}
use Rattle.host_progress.proofs.laws.live_hosts_complete.Goals as goal

pub returns-clause-completes : goal.returns-clause-completes
returns-clause-completes g c = completes_all

pub returns-clause-soon : goal.returns-clause-soon
returns-clause-soon g c = completes_soon

pub returns-clause-recovers : goal.returns-clause-recovers
returns-clause-recovers g c = recovers
