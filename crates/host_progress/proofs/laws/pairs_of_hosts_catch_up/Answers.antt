-- Entry by entry.
use Rattle.host_progress.proofs.CatchingUp.{pairs_catch_up}
use Rattle.host_progress.proofs.laws.pairs_of_hosts_catch_up.Goals as goal

pub returns : goal.returns
returns g c M C laws copies asks = pairs_catch_up M C laws copies
