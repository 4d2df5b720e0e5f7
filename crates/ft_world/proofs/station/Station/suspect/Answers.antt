-- Asking the arbiter changes nothing by which the node settles.
use Rattle.ft_world.proofs.Stations.{suspects_on}
use Rattle.ft_world.proofs.station.Station.suspect.Goals as goal

pub returns-clause-answer : goal.returns-clause-answer
returns-clause-answer g c = λ C drives x is.
    suspects_on g.B.Lockstep.state g.B.Lockstep.machine C drives c.args.self.now c.suspect.new.self _ _ c.args.id
    c.suspect.result x is (c.suspect.ensures.answer C drives x is.node)
