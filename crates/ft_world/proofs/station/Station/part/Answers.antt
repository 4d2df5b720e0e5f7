-- A part changes nothing by which the node settles.
use Rattle.clone_state.specs.Parts.{message_at}
use Rattle.ft_world.proofs.CopiedStations.{gets_on}
use Rattle.ft_world.proofs.station.Station.part.Goals as goal

pub returns-clause-answer : goal.returns-clause-answer
returns-clause-answer g c = λ C drives x copies is.
    gets_on g.B.Lockstep.state g.B.Lockstep.machine C drives c.args.self.now c.part.new.self
    (message_at drives c.args.bytes.now) c.part.result x is (c.part.ensures.answer C drives x copies is.node)
