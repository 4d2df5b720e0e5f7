-- The message brings a log entry, or none; there is no such node, or it refuses, holds the entry, or leaves it.
use Rattle.std.proofs.Common.{◌≡◌, None, Ok, Some, ap, is_ok, sym, Err}
use Rattle.std.specs.Option.{option_and_then}
use Rattle.std.specs.Prelude.{slice_get}
use Rattle.ft_world.specs.Messages.{log_of}
use Rattle.ft_world.specs.Pairs.{running_of}
use Rattle.ft_world.specs.Shows.{IsStation}
use Rattle.ft_world.proofs.Applying.{hands_on}
use Rattle.ft_world.proofs.AtHosts.{at_host, no_call}
use Rattle.ft_world.proofs.AtLog.{delivers_applies, delivers_refused, delivers_unknown, spelled_log}
use Rattle.ft_world.proofs.CopiedPages.{pages_keep}
use Rattle.ft_world.proofs.pair.Pair.deliver_log.Goals as goal

pub returns-in_default-clause-row : goal.returns-in_default-clause-row
returns-in_default-clause-row g c = λ course h.
    let brings : option_and_then log_of (slice_get c.args.self.now.messages.items c.args.message) ≡ None = sym c.in_default.ensures in
    delivers_unknown g.B.Lockstep.state g.B.Copies.copied g.B.Lockstep.machine g.D.SectorStore.records (running_of c.args.self.now)
    course c.args.message c.args.node brings h

pub returns-in_err-station-clause-row : goal.returns-in_err-station-clause-row
returns-in_err-station-clause-row g c = λ course h.
    let brings : option_and_then log_of (slice_get c.args.self.now.messages.items c.args.message) ≡ Some c.in-Some.packet.now = sym c.in-Some.ensures in
    hands_on c.from_residual.result c.in_err-station.field-0.0 c.from_residual.ensures.1
    (delivers_refused g.B.Lockstep.state g.B.Copies.copied g.B.Lockstep.machine g.D.SectorStore.records (running_of c.args.self.now)
    course c.args.message c.args.node c.in-Some.packet.now c.in_err-station.field-0.0
    c.station_mut.follows.lender-at-none.items brings h
    (λ generation index e spelled. no_call h c.in_err-station.ensures.absent.0 c.in_err-station.ensures.absent.1
    (rw c.in_err-station.was at c.station_mut.follows.holds-at-none)))

pub returns-in_err-new-clause-row : goal.returns-in_err-new-clause-row
returns-in_err-new-clause-row g c = λ course h.
    let brings : option_and_then log_of (slice_get c.args.self.now.messages.items c.args.message) ≡ Some c.in-Some.packet.now = sym c.in-Some.ensures in
    hands_on c.from_residual-in_err-new.result c.in_err-new.field-0.0 c.from_residual-in_err-new.ensures.1
    (delivers_refused g.B.Lockstep.state g.B.Copies.copied g.B.Lockstep.machine g.D.SectorStore.records (running_of c.args.self.now)
    course c.args.message c.args.node c.in-Some.packet.now c.in_err-new.field-0.0
    (c.station_mut.follows.lender c.deliver_log.new.self).items brings h
    (λ generation index e spelled. at_host h c.in_ok-station.ensures.found
    (c.station_mut.follows.holds c.deliver_log.new.self (ap is_ok c.in_ok-station.was))
    (λ C drives x is. spelled_log c.in-Some.packet.now x (Err c.in_err-new.field-0.0) (IsStation g.B.Lockstep.state g.B.Lockstep.machine C drives c.deliver_log.new.self) spelled
    (c.in_err-new.ensures.answer C drives x is))))

pub returns-clause-row : goal.returns-clause-row
returns-clause-row g c = λ course h.
    let brings : option_and_then log_of (slice_get c.args.self.now.messages.items c.args.message) ≡ Some c.in-Some.packet.now = sym c.in-Some.ensures in
    delivers_applies g.B.Lockstep.state g.B.Copies.copied g.B.Lockstep.machine g.D.SectorStore.records (running_of c.args.self.now)
    course c.args.message c.args.node c.in-Some.packet.now c.in_ok-new.new c.new_or_old.result
    (c.station_mut.follows.lender c.deliver_log.new.self).items c.new_or_old.ensures brings h
    (λ generation index e spelled. at_host h c.in_ok-station.ensures.found
    (c.station_mut.follows.holds c.deliver_log.new.self (ap is_ok c.in_ok-station.was))
    (λ C drives x is. spelled_log c.in-Some.packet.now x (Ok c.in_ok-new.new) (IsStation g.B.Lockstep.state g.B.Lockstep.machine C drives c.deliver_log.new.self) spelled
    (c.in_ok-new.ensures.answer C drives x is)))

pub returns-clause-pages : goal.returns-clause-pages
returns-clause-pages g c =
    pages_keep g.B.Lockstep.stale c.args.self.now.hosts.items (c.station_mut.follows.lender c.deliver_log.new.self).items c.args.node
    c.in_ok-station.station.now c.deliver_log.new.self c.in_ok-station.ensures.found
    (c.station_mut.follows.holds c.deliver_log.new.self (ap is_ok c.in_ok-station.was)) c.in_ok-new.ensures.pages
