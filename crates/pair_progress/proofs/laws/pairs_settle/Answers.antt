-- The log is sent, replayed and acknowledged, and then what is outstanding is completed.
use Rattle.pair_progress.proofs.Settling.{pairs_settle}
use Rattle.pair_progress.proofs.laws.pairs_settle.Goals as goal

pub returns : goal.returns
returns g c = pairs_settle
