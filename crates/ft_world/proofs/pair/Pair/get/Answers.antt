-- No such sector, or no such node, or the node refuses, or the disk answers.
use Rattle.std.proofs.Common.{◌<◌, ◌≤◌, arith}
use Rattle.ft_world.proofs.Refusing.{get_stays}
use Rattle.disk_dcdd.specs.declared.sector.TheConstants.{SECTORS}
use Rattle.ft_world.specs.Pairs.{running_of}
use Rattle.ft_world.proofs.Applying.{handed_on, hands_on}
use Rattle.ft_world.proofs.AtHosts.{asks_nobody, asks_node}
use Rattle.ft_world.proofs.DiskReads.{gets_applies, gets_no_failure, gets_refused, gets_unknown}
use Rattle.ft_world.proofs.pair.Pair.get.Goals as goal

pub returns-then-sector-ge-SECTORS-clause-row : goal.returns-then-sector-ge-SECTORS-clause-row
returns-then-sector-ge-SECTORS-clause-row g c = λ course h.
    let high : SECTORS ≤ c.args.sector = omega arith in
    gets_unknown g.B.Lockstep.state g.B.Copies.copied g.B.Lockstep.machine g.D.SectorStore.records (running_of c.args.self.now) course
    c.args.node c.args.sector h high

pub returns-in_err-station-clause-row : goal.returns-in_err-station-clause-row
returns-in_err-station-clause-row g c = λ course h.
    let low : c.args.sector < SECTORS = omega arith in
    hands_on c.from_residual.result c.in_err-station.field-0.0 c.from_residual.ensures.1
    (gets_refused g.B.Lockstep.state g.B.Copies.copied g.B.Lockstep.machine g.D.SectorStore.records (running_of c.args.self.now) course
    c.args.node c.args.sector c.in_err-station.field-0.0 h low
    (asks_nobody h c.in_err-station.ensures.absent.0 c.in_err-station.ensures.absent.1))

pub returns-in_err-address-clause-row : goal.returns-in_err-address-clause-row
returns-in_err-address-clause-row g c = λ course h.
    let low : c.args.sector < SECTORS = omega arith in
    hands_on c.from_residual-in_err-address.result c.in_err-address.field-0.0 c.from_residual-in_err-address.ensures.1
    (gets_refused g.B.Lockstep.state g.B.Copies.copied g.B.Lockstep.machine g.D.SectorStore.records (running_of c.args.self.now) course
    c.args.node c.args.sector c.in_err-address.field-0.0 h low
    (asks_node h c.in_ok-station.ensures.found c.in_err-address.ensures))

pub returns-in_err-station-clause-counted : goal.returns-in_err-station-clause-counted
returns-in_err-station-clause-counted g c =
    gets_no_failure g.B.Lockstep.machine c.requires.shown.course.world c.args.node c.args.sector
    (g.D.SectorStore.may_fail c.args.self.now.disk) c.in_err-station.field-0.0 c.from_residual.result
    (handed_on c.from_residual.result c.in_err-station.field-0.0 c.from_residual.ensures.1)
    (asks_nobody c.requires.shown.shows c.in_err-station.ensures.absent.0 c.in_err-station.ensures.absent.1)

pub returns-in_err-address-clause-counted : goal.returns-in_err-address-clause-counted
returns-in_err-address-clause-counted g c =
    gets_no_failure g.B.Lockstep.machine c.requires.shown.course.world c.args.node c.args.sector
    (g.D.SectorStore.may_fail c.args.self.now.disk) c.in_err-address.field-0.0 c.from_residual-in_err-address.result
    (handed_on c.from_residual-in_err-address.result c.in_err-address.field-0.0
    c.from_residual-in_err-address.ensures.1)
    (asks_node c.requires.shown.shows c.in_ok-station.ensures.found c.in_err-address.ensures)

pub returns-clause-row : goal.returns-clause-row
returns-clause-row g c = λ course h.
    let low : c.args.sector < SECTORS = omega arith in
    gets_applies g.B.Lockstep.state g.B.Copies.copied g.B.Lockstep.machine g.D.SectorStore.records (running_of c.args.self.now) course
    c.args.node c.args.sector c.in_ok-address.address c.get.result c.get.new.messages.items c.get.new.disk h low
    (asks_node h c.in_ok-station.ensures.found c.in_ok-address.ensures) c.get.ensures.row

pub returns-clause-unchanged : goal.returns-clause-unchanged
returns-clause-unchanged g c =
    let low : c.args.sector < SECTORS = omega arith in
    get_stays g.B.Lockstep.state g.B.Copies.copied g.B.Lockstep.machine g.D.SectorStore.records (running_of c.args.self.now) c.args.node
    c.args.sector c.in_ok-address.address c.get.result c.get.new.messages.items c.get.new.disk c.requires.shown low
    (asks_node c.requires.shown.shows c.in_ok-station.ensures.found c.in_ok-address.ensures) c.get.ensures.row c.get.ensures.untouched
