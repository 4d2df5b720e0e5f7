-- Nothing changes by which the node settles.
use Rattle.ft_world.proofs.AtFreshening.{freshens_on}
use Rattle.ft_world.proofs.station.Station.freshen.Goals as goal

pub returns-clause-answer : goal.returns-clause-answer
returns-clause-answer g c = λ C drives x is.
    freshens_on g.B.Lockstep.state g.B.Lockstep.machine C drives c.args.self.now c.freshen.new.self c.freshen.result x is
    (c.freshen.ensures.answer C drives x is.node)
