-- Event by event.
use Rattle.pair_progress.proofs.Following.{is_followed}
use Rattle.pair_progress.proofs.Outcomes.{one_outcome}
use Rattle.pair_progress.proofs.laws.lists_are_followed.Goals as goal

pub returns-clause-once : goal.returns-clause-once
returns-clause-once g c M C laws copies asks w r e q p new other =
    one_outcome M C laws copies w r new other q p e

pub returns-clause-followed : goal.returns-clause-followed
returns-clause-followed g c M C laws copies asks = is_followed M C laws copies
