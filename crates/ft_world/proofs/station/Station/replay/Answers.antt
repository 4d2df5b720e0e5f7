-- A replay changes nothing by which the backup settles.
use Rattle.ft_world.proofs.Stations.{replays_on}
use Rattle.ft_world.proofs.station.Station.replay.Goals as goal

pub returns-clause-answer : goal.returns-clause-answer
returns-clause-answer g c = λ C drives x is.
    replays_on g.B.Lockstep.state g.B.Lockstep.machine C drives c.args.turns c.args.self.now c.replay.new.self c.replay.result x
    is (c.replay.ensures.exactly c.requires.on_trace C drives x is.node)
