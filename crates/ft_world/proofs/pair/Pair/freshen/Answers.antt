-- There is no such node, or it refuses, or pages of its machine are copied.
use Rattle.std.proofs.Common.{ap, is_ok}
use Rattle.ft_world.specs.Pairs.{running_of}
use Rattle.ft_world.proofs.Applying.{hands_on}
use Rattle.ft_world.proofs.AtHosts.{at_host, no_call}
use Rattle.ft_world.proofs.AtFreshening.{freshens_applies, freshens_refused, tells_stale}
use Rattle.ft_world.proofs.CopiedPages.{pages_copied}
use Rattle.ft_world.proofs.pair.Pair.freshen.Goals as goal

pub returns-in_err-station-clause-row : goal.returns-in_err-station-clause-row
returns-in_err-station-clause-row g c = λ course h.
    hands_on c.from_residual.result c.in_err-station.field-0.0 c.from_residual.ensures.1
    (freshens_refused g.B.Lockstep.state g.B.Copies.copied g.B.Lockstep.machine g.D.SectorStore.records (running_of c.args.self.now) course
    c.args.node c.args.pages c.in_err-station.field-0.0 c.station_mut.follows.lender-at-none.items h
    (no_call h c.in_err-station.ensures.absent.0 c.in_err-station.ensures.absent.1
    (rw c.in_err-station.was at c.station_mut.follows.holds-at-none)))

pub returns-in_err-pages-clause-row : goal.returns-in_err-pages-clause-row
returns-in_err-pages-clause-row g c = λ course h.
    hands_on c.from_residual-in_err-pages.result c.in_err-pages.field-0.0 c.from_residual-in_err-pages.ensures.1
    (freshens_refused g.B.Lockstep.state g.B.Copies.copied g.B.Lockstep.machine g.D.SectorStore.records (running_of c.args.self.now) course
    c.args.node c.args.pages c.in_err-pages.field-0.0 (c.station_mut.follows.lender c.freshen.new.self).items h
    (at_host h c.in_ok-station.ensures.found
    (c.station_mut.follows.holds c.freshen.new.self (ap is_ok c.in_ok-station.was)) c.in_err-pages.ensures.answer))

pub returns-clause-row : goal.returns-clause-row
returns-clause-row g c = λ course h.
    freshens_applies g.B.Lockstep.state g.B.Copies.copied g.B.Lockstep.machine g.D.SectorStore.records (running_of c.args.self.now) course
    c.args.node c.args.pages c.in_ok-pages.pages (c.station_mut.follows.lender c.freshen.new.self).items h
    (at_host h c.in_ok-station.ensures.found
    (c.station_mut.follows.holds c.freshen.new.self (ap is_ok c.in_ok-station.was)) c.in_ok-pages.ensures.answer)

pub returns-clause-stale : goal.returns-clause-stale
returns-clause-stale g c =
    tells_stale g.B.Lockstep.stale c.args.node c.args.pages c.in_ok-pages.pages c.args.self.now.hosts.items
    (c.station_mut.follows.lender c.freshen.new.self).items c.in_ok-station.station.now c.freshen.new.self
    c.in_ok-station.ensures.found (c.station_mut.follows.holds c.freshen.new.self (ap is_ok c.in_ok-station.was))
    c.in_ok-pages.ensures.stale

pub returns-clause-pages : goal.returns-clause-pages
returns-clause-pages g c =
    pages_copied g.B.Lockstep.stale c.args.self.now.hosts.items (c.station_mut.follows.lender c.freshen.new.self).items c.args.node
    c.in_ok-station.station.now c.freshen.new.self c.in_ok-station.ensures.found
    (c.station_mut.follows.holds c.freshen.new.self (ap is_ok c.in_ok-station.was)) c.args.pages c.in_ok-pages.pages
    c.in_ok-pages.ensures.stale
