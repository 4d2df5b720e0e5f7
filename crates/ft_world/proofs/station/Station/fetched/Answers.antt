-- The bytes change nothing by which the node settles.
use Rattle.shared_disk.specs.Arrivals.{read_address}
use Rattle.ft_world.proofs.Stations.{fetches_on}
use Rattle.ft_world.proofs.station.Station.fetched.Goals as goal

pub returns-clause-answer : goal.returns-clause-answer
returns-clause-answer g c = λ C drives x is.
    fetches_on g.B.Lockstep.state g.B.Lockstep.machine C drives c.args.self.now c.fetched.new.self
    (read_address c.args.read.now) c.args.read.now.number c.args.read.now.bytes c.fetched.result x is
    (c.fetched.ensures.answer C drives x is.node)
