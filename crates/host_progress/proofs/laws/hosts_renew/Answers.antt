-- Part by part.
use Rattle.host_progress.proofs.Joining.{hosts_join}
use Rattle.host_progress.proofs.Renewing.{hosts_renew}
use Rattle.host_progress.proofs.laws.hosts_renew.Goals as goal

pub returns-clause-joins : goal.returns-clause-joins
returns-clause-joins g c M C laws copies asks f w h n m generation p heard =
    hosts_join M C laws copies asks.0 f w h n m generation p heard

pub returns-clause-renews : goal.returns-clause-renews
returns-clause-renews g c = hosts_renew
