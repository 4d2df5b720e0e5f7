-- The log is sent, replayed and acknowledged, and then what is outstanding is completed.
use Rattle.host_progress.proofs.Settling.{pairs_settle}
use Rattle.host_progress.proofs.laws.pairs_of_hosts_settle.Goals as goal

pub returns : goal.returns
returns g c = pairs_settle
