-- The steps are refused, or they are made and the node settles by the count after them.
use Rattle.ft_world.proofs.Stations.{steps_not, steps_on}
use Rattle.ft_world.proofs.station.Station.step.Goals as goal

pub returns-in_err-ran-clause-answer : goal.returns-in_err-ran-clause-answer
returns-in_err-ran-clause-answer g c = λ C drives x is.
    steps_not g.B.Lockstep.state g.B.Lockstep.machine C drives c.args.turns c.args.self.now c.step.new.self
    c.from_residual.result c.in_err-ran.field-0.0 x c.from_residual.ensures.1 is (c.in_err-ran.ensures.exactly c.requires.few C drives x is.node)

pub returns-clause-answer : goal.returns-clause-answer
returns-clause-answer g c = λ C drives x is.
    steps_on g.B.Lockstep.state g.B.Lockstep.machine C drives c.args.turns c.args.self.now c.step.new.self c.in_ok-ran.ran x is
    (c.in_ok-ran.ensures.exactly c.requires.few C drives x is.node)
