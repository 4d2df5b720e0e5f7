-- Takeover, and then completion.
use Rattle.pair_progress.proofs.Recovering.{recovers}
use Rattle.pair_progress.proofs.laws.whole_nodes_recover.Goals as goal

pub returns : goal.returns
returns g c = recovers
