-- A halt changes nothing by which the node settles.
use Rattle.ft_world.proofs.Stations.{stops_on}
use Rattle.ft_world.proofs.station.Station.stop.Goals as goal

pub returns-clause-answer : goal.returns-clause-answer
returns-clause-answer g c = λ C drives x is.
    stops_on g.B.Lockstep.state g.B.Lockstep.machine C drives c.args.self.now c.stop.new.self c.stop.result x is
    (c.stop.ensures.answer C drives x is.node)
