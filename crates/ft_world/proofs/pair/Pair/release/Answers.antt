-- The device does not exist, or there is no such node, or it refuses, or the operation is sent.
use Rattle.ft_world.specs.Pairs.{running_of}
use Rattle.ft_world.proofs.Applying.{hands_on}
use Rattle.ft_world.proofs.AtHosts.{asks_nobody, asks_node}
use Rattle.ft_world.proofs.Releasing.{releases_applies, releases_nowhere, releases_refused}
use Rattle.ft_world.proofs.pair.Pair.release.Goals as goal

pub returns-in_err-check_device-clause-row : goal.returns-in_err-check_device-clause-row
returns-in_err-check_device-clause-row g c = λ course h.
    hands_on c.from_residual.result c.in_err-check_device.field-0.0 c.from_residual.ensures.1
    (releases_nowhere g.B.Lockstep.state g.B.Copies.copied g.B.Lockstep.machine g.D.SectorStore.records (running_of c.args.self.now)
    course c.args.node c.args.id c.in_err-check_device.field-0.0 h c.in_err-check_device.ensures)

pub returns-in_err-station-clause-row : goal.returns-in_err-station-clause-row
returns-in_err-station-clause-row g c = λ course h.
    hands_on c.from_residual-in_err-station.result c.in_err-station.field-0.0 c.from_residual-in_err-station.ensures.1
    (releases_refused g.B.Lockstep.state g.B.Copies.copied g.B.Lockstep.machine g.D.SectorStore.records (running_of c.args.self.now)
    course c.args.node c.args.id c.in_ok-check_device.field-0 c.in_err-station.field-0.0 h
    c.in_ok-check_device.ensures
    (asks_nobody h c.in_err-station.ensures.absent.0 c.in_err-station.ensures.absent.1))

pub returns-in_err-operation-clause-row : goal.returns-in_err-operation-clause-row
returns-in_err-operation-clause-row g c = λ course h.
    hands_on c.from_residual-in_err-operation.result c.in_err-operation.field-0.0
    c.from_residual-in_err-operation.ensures.1
    (releases_refused g.B.Lockstep.state g.B.Copies.copied g.B.Lockstep.machine g.D.SectorStore.records (running_of c.args.self.now)
    course c.args.node c.args.id c.in_ok-check_device.field-0 c.in_err-operation.field-0.0 h
    c.in_ok-check_device.ensures
    (asks_node h c.in_ok-station.ensures.found c.in_err-operation.ensures))

pub returns-clause-row : goal.returns-clause-row
returns-clause-row g c = λ course h.
    releases_applies g.B.Lockstep.state g.B.Copies.copied g.B.Lockstep.machine g.D.SectorStore.records (running_of c.args.self.now)
    course c.args.node c.args.id c.in_ok-check_device.field-0 c.in_ok-operation.operation c.say_released.result
    c.say_released.new.messages.items h c.in_ok-check_device.ensures
    (asks_node h c.in_ok-station.ensures.found c.in_ok-operation.ensures) c.say_released.ensures
