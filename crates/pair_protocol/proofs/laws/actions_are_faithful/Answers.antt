-- The invariant gives the law.
use Rattle.pair_protocol.proofs.Promises.Runs.{always_faithful}
use Rattle.pair_protocol.proofs.laws.actions_are_faithful.Goals as goal

pub returns : goal.returns
returns g c = record { faithful = always_faithful }
