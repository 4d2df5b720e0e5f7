-- A node settles by the count of its machine once it has drained, and as before until then.
use Rattle.ft_world.proofs.Stations.{drains_on}
use Rattle.ft_world.proofs.station.Station.drain.Goals as goal

pub returns-clause-answer : goal.returns-clause-answer
returns-clause-answer g c = λ C drives x is.
    drains_on g.B.Lockstep.state g.B.Lockstep.machine C drives c.args.turns c.args.self.now c.drain.new.self
    c.in_ok-drained.drained c.settled_count-self.result x is (c.in_ok-drained.ensures.exactly c.requires.on_trace C drives x is.node)
    (c.settled_count-self.ensures C drives)
