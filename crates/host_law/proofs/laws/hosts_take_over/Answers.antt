-- The takeover is proved step by step.
use Rattle.host_law.proofs.Takeover.{takes-over}
use Rattle.host_law.proofs.laws.hosts_take_over.Goals as goal

pub returns : goal.returns
returns g c = record { takeover = takes-over }
