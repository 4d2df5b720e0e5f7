-- Nothing has gone yet.
use Rattle.host_progress.proofs.Exchanging.{first_waits}
use Rattle.host_progress.proofs.laws.first_steps_wait_for_nobody.Goals as goal

pub returns : goal.returns
returns g c = first_waits
