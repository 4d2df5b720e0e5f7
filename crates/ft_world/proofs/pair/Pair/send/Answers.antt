-- There is no such node, or it refuses, or its packet is sent.
use Rattle.ft_world.specs.Pairs.{running_of}
use Rattle.ft_world.proofs.Applying.{hands_on}
use Rattle.ft_world.proofs.AtHosts.{asks_nobody, asks_node}
use Rattle.ft_world.proofs.Sending.{sends_applies, sends_refused}
use Rattle.ft_world.proofs.pair.Pair.send.Goals as goal

pub returns-in_err-station-clause-row : goal.returns-in_err-station-clause-row
returns-in_err-station-clause-row g c = λ course h.
    hands_on c.from_residual.result c.in_err-station.field-0.0 c.from_residual.ensures.1
    (sends_refused g.B.Lockstep.state g.B.Copies.copied g.B.Lockstep.machine g.D.SectorStore.records (running_of c.args.self.now) course
    c.args.node c.args.index c.in_err-station.field-0.0 h
    (asks_nobody h c.in_err-station.ensures.absent.0 c.in_err-station.ensures.absent.1))

pub returns-in_err-bytes-clause-row : goal.returns-in_err-bytes-clause-row
returns-in_err-bytes-clause-row g c = λ course h.
    hands_on c.from_residual-in_err-bytes.result c.in_err-bytes.field-0.0 c.from_residual-in_err-bytes.ensures.1
    (sends_refused g.B.Lockstep.state g.B.Copies.copied g.B.Lockstep.machine g.D.SectorStore.records (running_of c.args.self.now) course
    c.args.node c.args.index c.in_err-bytes.field-0.0 h
    (asks_node h c.in_ok-station.ensures.found c.in_err-bytes.ensures))

pub returns-clause-row : goal.returns-clause-row
returns-clause-row g c = λ course h.
    sends_applies g.B.Lockstep.state g.B.Copies.copied g.B.Lockstep.machine g.D.SectorStore.records (running_of c.args.self.now) course
    c.args.node c.args.index c.in_ok-bytes.bytes c.say.result c.say.new.messages.items h
    (asks_node h c.in_ok-station.ensures.found c.in_ok-bytes.ensures) c.say.ensures
