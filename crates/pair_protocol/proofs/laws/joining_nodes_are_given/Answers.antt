-- The invariant gives the law.
use Rattle.pair_protocol.proofs.Promises.Joining.{joining_is_given}
use Rattle.pair_protocol.proofs.laws.joining_nodes_are_given.Goals as goal

pub returns : goal.returns
returns g c = record { given = joining_is_given }
