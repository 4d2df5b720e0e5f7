-- It asks, drains and fetches.
use Rattle.host_progress.proofs.TakingOver.{takes_over}
use Rattle.host_progress.proofs.laws.whole_hosts_take_over.Goals as goal

pub returns : goal.returns
returns g c M C laws copies asks = takes_over M C laws copies
