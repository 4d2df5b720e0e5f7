-- Entry by entry.
use Rattle.pair_progress.proofs.CatchingUp.{pairs_catch_up}
use Rattle.pair_progress.proofs.laws.pairs_catch_up.Goals as goal

pub returns : goal.returns
returns g c M C laws copies asks = pairs_catch_up M C laws copies
