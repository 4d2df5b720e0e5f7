-- The proof of takeover is the law.
use Rattle.pair_progress.proofs.Takeover.{takes_over}
use Rattle.pair_progress.proofs.laws.whole_nodes_take_over.Goals as goal

pub returns : goal.returns
returns g c = record { takes_over = λ M C laws copies asks. takes_over M C laws copies }
