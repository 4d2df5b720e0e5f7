-- Part by part.
use Rattle.pair_progress.proofs.Joining.{hosts_join}
use Rattle.pair_progress.proofs.Lacking.{joiners_lack}
use Rattle.pair_progress.proofs.laws.hosts_join.Goals as goal

pub returns-clause-joins : goal.returns-clause-joins
returns-clause-joins g c M C laws copies asks w r n host generation =
    hosts_join M C laws copies asks.0 n host generation w r

pub returns-clause-lacks : goal.returns-clause-lacks
returns-clause-lacks g c = joiners_lack
