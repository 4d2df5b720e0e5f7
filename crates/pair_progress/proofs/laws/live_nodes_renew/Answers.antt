-- A generation begins, and its host joins.
use Rattle.pair_progress.proofs.Renewing.{renews}
use Rattle.pair_progress.proofs.laws.live_nodes_renew.Goals as goal

pub returns : goal.returns
returns g c = renews
