-- The message is of another kind, or there is no such node, or it refuses, or it keeps the bytes.
use Rattle.std.proofs.Common.{◌≡◌, None, Some, ap, is_ok, sym}
use Rattle.std.specs.Option.{option_and_then}
use Rattle.std.specs.Prelude.{slice_get}
use Rattle.ft_world.specs.Messages.{sector_of}
use Rattle.ft_world.specs.Pairs.{running_of}
use Rattle.ft_world.proofs.Applying.{hands_on}
use Rattle.ft_world.proofs.AtFetching.{fetched_applies, fetched_refused, fetched_unknown}
use Rattle.ft_world.proofs.AtHosts.{at_host, no_call}
use Rattle.ft_world.proofs.CopiedPages.{pages_keep}
use Rattle.ft_world.proofs.pair.Pair.fetched.Goals as goal

pub returns-in_default-clause-row : goal.returns-in_default-clause-row
returns-in_default-clause-row g c = λ course h.
    let brings : option_and_then sector_of (slice_get c.args.self.now.messages.items c.args.message) ≡ None = sym c.in_default.ensures in
    fetched_unknown g.B.Lockstep.state g.B.Copies.copied g.B.Lockstep.machine g.D.SectorStore.records (running_of c.args.self.now) course h
    c.args.message c.args.node brings

pub returns-in_err-station-clause-row : goal.returns-in_err-station-clause-row
returns-in_err-station-clause-row g c = λ course h.
    let brings : option_and_then sector_of (slice_get c.args.self.now.messages.items c.args.message) ≡ Some c.in-Some.read = sym c.in-Some.ensures in
    hands_on c.from_residual.result c.in_err-station.field-0.0 c.from_residual.ensures.1
    (fetched_refused g.B.Lockstep.state g.B.Copies.copied g.B.Lockstep.machine g.D.SectorStore.records (running_of c.args.self.now) course h
    c.args.message c.args.node c.in-Some.read brings c.in_err-station.field-0.0 c.station_mut.follows.lender-at-none.items
    (no_call h c.in_err-station.ensures.absent.0 c.in_err-station.ensures.absent.1
    (rw c.in_err-station.was at c.station_mut.follows.holds-at-none)))

pub returns-in_err-fetched-clause-row : goal.returns-in_err-fetched-clause-row
returns-in_err-fetched-clause-row g c = λ course h.
    let brings : option_and_then sector_of (slice_get c.args.self.now.messages.items c.args.message) ≡ Some c.in-Some.read = sym c.in-Some.ensures in
    hands_on c.from_residual-in_err-fetched.result c.in_err-fetched.field-0.0 c.from_residual-in_err-fetched.ensures.1
    (fetched_refused g.B.Lockstep.state g.B.Copies.copied g.B.Lockstep.machine g.D.SectorStore.records (running_of c.args.self.now) course h
    c.args.message c.args.node c.in-Some.read brings c.in_err-fetched.field-0.0
    (c.station_mut.follows.lender c.fetched.new.self).items
    (at_host h c.in_ok-station.ensures.found
    (c.station_mut.follows.holds c.fetched.new.self (ap is_ok c.in_ok-station.was)) c.in_err-fetched.ensures.answer))

pub returns-clause-row : goal.returns-clause-row
returns-clause-row g c = λ course h.
    let brings : option_and_then sector_of (slice_get c.args.self.now.messages.items c.args.message) ≡ Some c.in-Some.read = sym c.in-Some.ensures in
    fetched_applies g.B.Lockstep.state g.B.Copies.copied g.B.Lockstep.machine g.D.SectorStore.records (running_of c.args.self.now) course h
    c.args.message c.args.node c.in-Some.read brings (c.station_mut.follows.lender c.fetched.new.self).items
    (at_host h c.in_ok-station.ensures.found
    (c.station_mut.follows.holds c.fetched.new.self (ap is_ok c.in_ok-station.was)) c.in_ok-fetched.ensures.answer)

pub returns-clause-pages : goal.returns-clause-pages
returns-clause-pages g c =
    pages_keep g.B.Lockstep.stale c.args.self.now.hosts.items (c.station_mut.follows.lender c.fetched.new.self).items c.args.node
    c.in_ok-station.station.now c.fetched.new.self c.in_ok-station.ensures.found
    (c.station_mut.follows.holds c.fetched.new.self (ap is_ok c.in_ok-station.was)) c.in_ok-fetched.ensures.pages
