-- The disk's record has the number of the last completed write.
use Rattle.pair_progress.proofs.Reading.{sectors_come}
use Rattle.pair_progress.proofs.laws.due_sectors_come.Goals as goal

pub returns : goal.returns
returns g c M C laws copies asks = sectors_come M C laws copies asks.0 asks.1
