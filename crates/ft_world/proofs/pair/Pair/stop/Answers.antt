-- There is no such node, or it refuses, or it halts.
use Rattle.std.proofs.Common.{ap, is_ok}
use Rattle.ft_world.specs.Pairs.{running_of}
use Rattle.ft_world.proofs.Applying.{hands_on}
use Rattle.ft_world.proofs.AtHosts.{at_host, no_call}
use Rattle.ft_world.proofs.AtMoves.{stops_applies, stops_refused}
use Rattle.ft_world.proofs.CopiedPages.{pages_keep}
use Rattle.ft_world.proofs.pair.Pair.stop.Goals as goal

pub returns-in_err-station-clause-row : goal.returns-in_err-station-clause-row
returns-in_err-station-clause-row g c = λ course h.
    hands_on c.from_residual.result c.in_err-station.field-0.0 c.from_residual.ensures.1
    (stops_refused g.B.Lockstep.state g.B.Copies.copied g.B.Lockstep.machine g.D.SectorStore.records (running_of c.args.self.now) course
    c.args.node c.in_err-station.field-0.0 c.station_mut.follows.lender-at-none.items h
    (no_call h c.in_err-station.ensures.absent.0 c.in_err-station.ensures.absent.1
    (rw c.in_err-station.was at c.station_mut.follows.holds-at-none)))

pub returns-in_err-stop-clause-row : goal.returns-in_err-stop-clause-row
returns-in_err-stop-clause-row g c = λ course h.
    hands_on c.from_residual-in_err-stop.result c.in_err-stop.field-0.0 c.from_residual-in_err-stop.ensures.1
    (stops_refused g.B.Lockstep.state g.B.Copies.copied g.B.Lockstep.machine g.D.SectorStore.records (running_of c.args.self.now) course
    c.args.node c.in_err-stop.field-0.0 (c.station_mut.follows.lender c.stop.new.self).items h
    (at_host h c.in_ok-station.ensures.found
    (c.station_mut.follows.holds c.stop.new.self (ap is_ok c.in_ok-station.was)) c.in_err-stop.ensures.answer))

pub returns-clause-row : goal.returns-clause-row
returns-clause-row g c = λ course h.
    stops_applies g.B.Lockstep.state g.B.Copies.copied g.B.Lockstep.machine g.D.SectorStore.records (running_of c.args.self.now) course
    c.args.node (c.station_mut.follows.lender c.stop.new.self).items h
    (at_host h c.in_ok-station.ensures.found
    (c.station_mut.follows.holds c.stop.new.self (ap is_ok c.in_ok-station.was)) c.in_ok-stop.ensures.answer)

pub returns-clause-pages : goal.returns-clause-pages
returns-clause-pages g c =
    pages_keep g.B.Lockstep.stale c.args.self.now.hosts.items (c.station_mut.follows.lender c.stop.new.self).items c.args.node
    c.in_ok-station.station.now c.stop.new.self c.in_ok-station.ensures.found
    (c.station_mut.follows.holds c.stop.new.self (ap is_ok c.in_ok-station.was)) c.in_ok-stop.ensures.pages
