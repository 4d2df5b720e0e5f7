-- There is no such node, or it refuses, or it has won, or it has lost.
use Rattle.std.proofs.Common.{ap, is_ok, refl}
use Rattle.ft_world.specs.Pairs.{running_of}
use Rattle.ft_world.proofs.Applying.{hands_on}
use Rattle.ft_world.proofs.AtHosts.{no_host, same_hosts, suspects_host}
use Rattle.ft_world.proofs.Refusing.{suspect_stays}
use Rattle.ft_world.proofs.Contesting.{suspects_applies, suspects_refused}
use Rattle.ft_world.proofs.CopiedPages.{pages_keep}
use Rattle.ft_world.proofs.pair.Pair.suspect.Goals as goal

pub returns-in_err-station-clause-row : goal.returns-in_err-station-clause-row
returns-in_err-station-clause-row g c = λ course h.
    hands_on c.from_residual.result c.in_err-station.field-0.0 c.from_residual.ensures.1
    (suspects_refused g.B.Lockstep.state g.B.Copies.copied g.B.Lockstep.machine g.D.SectorStore.records (running_of c.args.self.now)
    course c.args.node c.in_err-station.field-0.0 c.station_mut.follows.lender-at-none.items c.args.self.now.arbiter h
    (no_host h _ c.args.node _ _ _ c.in_err-station.ensures.absent.0 c.in_err-station.ensures.absent.1
    (same_hosts h _ (rw c.in_err-station.was at c.station_mut.follows.holds-at-none), refl)))

pub returns-in_err-suspect-clause-row : goal.returns-in_err-suspect-clause-row
returns-in_err-suspect-clause-row g c = λ course h.
    hands_on c.from_residual-in_err-suspect.result c.in_err-suspect.field-0.0 c.from_residual-in_err-suspect.ensures.1
    (suspects_refused g.B.Lockstep.state g.B.Copies.copied g.B.Lockstep.machine g.D.SectorStore.records (running_of c.args.self.now)
    course c.args.node c.in_err-suspect.field-0.0 (c.station_mut.follows.lender c.suspect.new.self).items
    c.suspect.new.arbiter h
    (suspects_host h c.in_ok-station.ensures.found
    (c.station_mut.follows.holds c.suspect.new.self (ap is_ok c.in_ok-station.was)) _ c.suspect.new.arbiter
    c.in_err-suspect.ensures.answer))

pub returns-clause-row : goal.returns-clause-row
returns-clause-row g c = λ course h.
    suspects_applies g.B.Lockstep.state g.B.Copies.copied g.B.Lockstep.machine g.D.SectorStore.records (running_of c.args.self.now)
    course c.args.node c.in_ok-suspect.field-0 (c.station_mut.follows.lender c.suspect.new.self).items
    c.suspect.new.arbiter h
    (suspects_host h c.in_ok-station.ensures.found
    (c.station_mut.follows.holds c.suspect.new.self (ap is_ok c.in_ok-station.was)) _ c.suspect.new.arbiter
    c.in_ok-suspect.ensures.answer)

pub returns-in_err-suspect-clause-unchanged : goal.returns-in_err-suspect-clause-unchanged
returns-in_err-suspect-clause-unchanged g c =
    suspect_stays g.B.Lockstep.state g.B.Copies.copied g.B.Lockstep.machine g.D.SectorStore.records (running_of c.args.self.now)
    c.args.node c.in_ok-station.station.now c.suspect.new.self (c.station_mut.follows.lender c.suspect.new.self).items
    c.suspect.new.arbiter c.from_residual-in_err-suspect.result c.in_err-suspect.field-0.0 c.requires.shown
    c.in_ok-station.ensures.found (c.station_mut.follows.holds c.suspect.new.self (ap is_ok c.in_ok-station.was))
    c.in_err-suspect.ensures.answer c.in_err-suspect.ensures.beside c.in_err-suspect.ensures.unchanged
    c.in_err-suspect.ensures.arbiter c.from_residual-in_err-suspect.ensures.1

pub returns-clause-pages : goal.returns-clause-pages
returns-clause-pages g c =
    pages_keep g.B.Lockstep.stale c.args.self.now.hosts.items (c.station_mut.follows.lender c.suspect.new.self).items c.args.node
    c.in_ok-station.station.now c.suspect.new.self c.in_ok-station.ensures.found
    (c.station_mut.follows.holds c.suspect.new.self (ap is_ok c.in_ok-station.was)) c.in_ok-suspect.ensures.pages
