-- The invariant gives the law.
use Rattle.pair_protocol.proofs.Promises.Faithful.{alone_is_highest}
use Rattle.pair_protocol.proofs.Promises.NodeStands.{nodes_stand}
use Rattle.pair_protocol.proofs.laws.nodes_stand.Goals as goal

pub returns : goal.returns
returns g c = record { stand = nodes_stand; alone = alone_is_highest }
