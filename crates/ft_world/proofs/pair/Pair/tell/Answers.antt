-- No such port, or no such node, or the node refuses, or the terminal is told.
use Rattle.std.proofs.Common.{◌<◌, ◌≤◌, arith}
use Rattle.event_callbacks.specs.declared.devices.TheConstants.{PORTS}
use Rattle.ft_world.specs.Pairs.{running_of}
use Rattle.ft_world.proofs.Applying.{hands_on}
use Rattle.ft_world.proofs.AtHosts.{asks_nobody, asks_node}
use Rattle.ft_world.proofs.Releasing.{tells_applies, tells_nowhere, tells_refused}
use Rattle.ft_world.proofs.pair.Pair.tell.Goals as goal

pub returns-then-port-ge-PORTS-clause-row : goal.returns-then-port-ge-PORTS-clause-row
returns-then-port-ge-PORTS-clause-row g c = λ course h.
    let high : PORTS ≤ c.args.port = omega arith in
    tells_nowhere g.B.Lockstep.state g.B.Copies.copied g.B.Lockstep.machine g.D.SectorStore.records (running_of c.args.self.now) course
    c.args.node c.args.port h high

pub returns-in_err-station-clause-row : goal.returns-in_err-station-clause-row
returns-in_err-station-clause-row g c = λ course h.
    let low : c.args.port < PORTS = omega arith in
    hands_on c.from_residual.result c.in_err-station.field-0.0 c.from_residual.ensures.1
    (tells_refused g.B.Lockstep.state g.B.Copies.copied g.B.Lockstep.machine g.D.SectorStore.records (running_of c.args.self.now) course
    c.args.node c.args.port c.in_err-station.field-0.0 h low
    (asks_nobody h c.in_err-station.ensures.absent.0 c.in_err-station.ensures.absent.1))

pub returns-in_err-keys-clause-row : goal.returns-in_err-keys-clause-row
returns-in_err-keys-clause-row g c = λ course h.
    let low : c.args.port < PORTS = omega arith in
    hands_on c.from_residual-in_err-keys.result c.in_err-keys.field-0.0 c.from_residual-in_err-keys.ensures.1
    (tells_refused g.B.Lockstep.state g.B.Copies.copied g.B.Lockstep.machine g.D.SectorStore.records (running_of c.args.self.now) course
    c.args.node c.args.port c.in_err-keys.field-0.0 h low
    (asks_node h c.in_ok-station.ensures.found c.in_err-keys.ensures))

pub returns-clause-row : goal.returns-clause-row
returns-clause-row g c = λ course h.
    let low : c.args.port < PORTS = omega arith in
    tells_applies g.B.Lockstep.state g.B.Copies.copied g.B.Lockstep.machine g.D.SectorStore.records (running_of c.args.self.now) course
    c.args.node c.args.port c.in_ok-keys.keys c.tell.new.terminals h low
    (asks_node h c.in_ok-station.ensures.found c.in_ok-keys.ensures) c.tell.ensures
