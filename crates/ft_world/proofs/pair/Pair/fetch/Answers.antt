-- There is no such node, or it waits for no sector, or the disk answers.
use Rattle.ft_world.specs.Pairs.{running_of}
use Rattle.ft_world.proofs.Applying.{handed_on, hands_on}
use Rattle.ft_world.proofs.AtHosts.{asks_nobody, asks_node}
use Rattle.ft_world.proofs.AtFetching.{fetch_stays, fetches_applies, fetches_no_failure, fetches_refused}
use Rattle.ft_world.proofs.pair.Pair.fetch.Goals as goal

pub returns-in_err-station-clause-row : goal.returns-in_err-station-clause-row
returns-in_err-station-clause-row g c = λ course h.
    hands_on c.from_residual.result c.in_err-station.field-0.0 c.from_residual.ensures.1
    (fetches_refused g.B.Lockstep.state g.B.Copies.copied g.B.Lockstep.machine g.D.SectorStore.records (running_of c.args.self.now) course h
    c.args.node c.in_err-station.field-0.0
    (asks_nobody h c.in_err-station.ensures.absent.0 c.in_err-station.ensures.absent.1))

pub returns-in_err-address-clause-row : goal.returns-in_err-address-clause-row
returns-in_err-address-clause-row g c = λ course h.
    hands_on c.from_residual-in_err-address.result c.in_err-address.field-0.0 c.from_residual-in_err-address.ensures.1
    (fetches_refused g.B.Lockstep.state g.B.Copies.copied g.B.Lockstep.machine g.D.SectorStore.records (running_of c.args.self.now) course h
    c.args.node c.in_err-address.field-0.0 (asks_node h c.in_ok-station.ensures.found c.in_err-address.ensures))

pub returns-in_err-station-clause-counted : goal.returns-in_err-station-clause-counted
returns-in_err-station-clause-counted g c =
    fetches_no_failure g.B.Lockstep.machine c.requires.shown.course.world c.args.node
    (g.D.SectorStore.may_fail c.args.self.now.disk) c.in_err-station.field-0.0 c.from_residual.result
    (handed_on c.from_residual.result c.in_err-station.field-0.0 c.from_residual.ensures.1)
    (asks_nobody c.requires.shown.shows c.in_err-station.ensures.absent.0 c.in_err-station.ensures.absent.1)

pub returns-in_err-address-clause-counted : goal.returns-in_err-address-clause-counted
returns-in_err-address-clause-counted g c =
    fetches_no_failure g.B.Lockstep.machine c.requires.shown.course.world c.args.node
    (g.D.SectorStore.may_fail c.args.self.now.disk) c.in_err-address.field-0.0 c.from_residual-in_err-address.result
    (handed_on c.from_residual-in_err-address.result c.in_err-address.field-0.0
    c.from_residual-in_err-address.ensures.1)
    (asks_node c.requires.shown.shows c.in_ok-station.ensures.found c.in_err-address.ensures)

pub returns-clause-row : goal.returns-clause-row
returns-clause-row g c = λ course h.
    fetches_applies g.B.Lockstep.state g.B.Copies.copied g.B.Lockstep.machine g.D.SectorStore.records (running_of c.args.self.now) course h
    c.args.node c.in_ok-address.address c.get.result c.get.new.messages.items c.get.new.disk
    (asks_node h c.in_ok-station.ensures.found c.in_ok-address.ensures) c.get.ensures.row

pub returns-clause-unchanged : goal.returns-clause-unchanged
returns-clause-unchanged g c =
    let some = c.requires.shown in
    fetch_stays g.B.Lockstep.state g.B.Copies.copied g.B.Lockstep.machine g.D.SectorStore.records (running_of c.args.self.now) some.course
    some.shows c.args.node c.in_ok-address.address c.get.result c.get.new.messages.items c.get.new.disk
    (asks_node some.shows c.in_ok-station.ensures.found c.in_ok-address.ensures) c.get.ensures.row c.get.ensures.untouched
