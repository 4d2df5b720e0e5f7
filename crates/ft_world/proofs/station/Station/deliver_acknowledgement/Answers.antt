-- An acknowledgement changes nothing by which the node settles.
use Rattle.log_channel.specs.Packet.{packet_at}
use Rattle.ft_world.proofs.Stations.{hears_on}
use Rattle.ft_world.proofs.station.Station.deliver_acknowledgement.Goals as goal

pub returns-clause-answer : goal.returns-clause-answer
returns-clause-answer g c = λ C drives x is.
    hears_on g.B.Lockstep.state g.B.Lockstep.machine C drives (packet_at c.args.bytes.now) c.args.self.now c.on_ack.new.self
    c.on_ack.result x is (c.on_ack.ensures.answer C drives x is.node)
