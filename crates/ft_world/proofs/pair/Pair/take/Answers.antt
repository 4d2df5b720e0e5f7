-- There is no such node, or it refuses the input, or it takes it.
use Rattle.std.proofs.Common.{ap, is_ok}
use Rattle.ft_world.proofs.Applying.{hands_on}
use Rattle.ft_world.proofs.AtHosts.{at_host, no_call}
use Rattle.ft_world.proofs.AtInputs.{offer_applies, offer_refused}
use Rattle.ft_world.proofs.CopiedPages.{pages_keep}
use Rattle.ft_world.proofs.pair.Pair.take.Goals as goal

pub returns-in_err-station-clause-row : goal.returns-in_err-station-clause-row
returns-in_err-station-clause-row g c = λ course e offers h.
    hands_on c.from_residual.result c.in_err-station.field-0.0 c.from_residual.ensures.1
    (offer_refused h c.station_mut.follows.lender-at-none.items offers c.in_err-station.field-0.0
    (no_call h c.in_err-station.ensures.absent.0 c.in_err-station.ensures.absent.1
    (rw c.in_err-station.was at c.station_mut.follows.holds-at-none)))

pub returns-in_err-take-clause-row : goal.returns-in_err-take-clause-row
returns-in_err-take-clause-row g c = λ course e offers h.
    hands_on c.from_residual-in_err-take.result c.in_err-take.field-0.0 c.from_residual-in_err-take.ensures.1
    (offer_refused h (c.station_mut.follows.lender c.take.new.self).items offers c.in_err-take.field-0.0
    (at_host h c.in_ok-station.ensures.found
    (c.station_mut.follows.holds c.take.new.self (ap is_ok c.in_ok-station.was)) c.in_err-take.ensures.answer))

pub returns-clause-row : goal.returns-clause-row
returns-clause-row g c = λ course e offers h.
    offer_applies h (c.station_mut.follows.lender c.take.new.self).items offers
    (at_host h c.in_ok-station.ensures.found
    (c.station_mut.follows.holds c.take.new.self (ap is_ok c.in_ok-station.was)) c.in_ok-take.ensures.answer)

pub returns-clause-pages : goal.returns-clause-pages
returns-clause-pages g c =
    pages_keep g.B.Lockstep.stale c.args.self.now.hosts.items (c.station_mut.follows.lender c.take.new.self).items c.args.node
    c.in_ok-station.station.now c.take.new.self c.in_ok-station.ensures.found
    (c.station_mut.follows.holds c.take.new.self (ap is_ok c.in_ok-station.was)) c.in_ok-take.ensures.pages
