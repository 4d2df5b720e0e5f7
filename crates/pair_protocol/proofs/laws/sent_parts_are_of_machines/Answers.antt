-- The invariant gives the law.
use Rattle.pair_protocol.proofs.Promises.Joining.{parts_are_of_machines}
use Rattle.pair_protocol.proofs.laws.sent_parts_are_of_machines.Goals as goal

pub returns : goal.returns
returns g c = parts_are_of_machines
