-- With nothing left it is the count of the node's machine.
use Rattle.std.proofs.Common.{sym}
use Rattle.ft_world.proofs.station.Station.settled_count.Goals as goal

pub returns-in-End : goal.returns-in-End
returns-in-End g c = rw c.in-End.is (λ C drives x is. sym (c.count.ensures C drives x is))
