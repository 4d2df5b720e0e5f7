-- Nothing but the guest refuses.
use Rattle.pair_progress.proofs.Going.{caught_up_goes_on, live_goes_on, serves_on}
use Rattle.pair_progress.proofs.laws.nodes_go_on.Goals as goal

pub returns-clause-live : goal.returns-clause-live
returns-clause-live g c = live_goes_on

pub returns-clause-caught_up : goal.returns-clause-caught_up
returns-clause-caught_up g c = caught_up_goes_on

pub returns-clause-serves : goal.returns-clause-serves
returns-clause-serves g c = serves_on
