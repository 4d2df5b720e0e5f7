-- The message brings an acknowledgement, or none; there is no such node, or it refuses it, or takes it.
use Rattle.std.proofs.Common.{◌≡◌, None, Some, ap, is_ok, sym, Err, Ok}
use Rattle.std.specs.Option.{option_and_then}
use Rattle.std.specs.Prelude.{slice_get}
use Rattle.ft_world.specs.Messages.{ack_of}
use Rattle.ft_world.specs.Pairs.{running_of}
use Rattle.ft_world.specs.Shows.{IsStation}
use Rattle.ft_world.proofs.Applying.{hands_on}
use Rattle.ft_world.proofs.AtHosts.{at_host, no_call}
use Rattle.ft_world.proofs.AtLog.{hears_applies, hears_refused, hears_unknown, spelled_ack}
use Rattle.ft_world.proofs.CopiedPages.{pages_keep}
use Rattle.ft_world.proofs.pair.Pair.deliver_acknowledgement.Goals as goal

pub returns-in_default-clause-row : goal.returns-in_default-clause-row
returns-in_default-clause-row g c = λ course h.
    let brings : option_and_then ack_of (slice_get c.args.self.now.messages.items c.args.message) ≡ None = sym c.in_default.ensures in
    hears_unknown g.B.Lockstep.state g.B.Copies.copied g.B.Lockstep.machine g.D.SectorStore.records (running_of c.args.self.now) course
    c.args.message c.args.node brings h

pub returns-in_err-station-clause-row : goal.returns-in_err-station-clause-row
returns-in_err-station-clause-row g c = λ course h.
    let brings : option_and_then ack_of (slice_get c.args.self.now.messages.items c.args.message) ≡ Some c.in-Some.packet.now = sym c.in-Some.ensures in
    hands_on c.from_residual.result c.in_err-station.field-0.0 c.from_residual.ensures.1
    (hears_refused g.B.Lockstep.state g.B.Copies.copied g.B.Lockstep.machine g.D.SectorStore.records (running_of c.args.self.now) course
    c.args.message c.args.node c.in-Some.packet.now c.in_err-station.field-0.0
    c.station_mut.follows.lender-at-none.items brings h
    (λ generation held reports spelled. no_call h c.in_err-station.ensures.absent.0 c.in_err-station.ensures.absent.1
    (rw c.in_err-station.was at c.station_mut.follows.holds-at-none)))

pub returns-in_err-held-clause-row : goal.returns-in_err-held-clause-row
returns-in_err-held-clause-row g c = λ course h.
    let brings : option_and_then ack_of (slice_get c.args.self.now.messages.items c.args.message) ≡ Some c.in-Some.packet.now = sym c.in-Some.ensures in
    hands_on c.from_residual-in_err-held.result c.in_err-held.field-0.0 c.from_residual-in_err-held.ensures.1
    (hears_refused g.B.Lockstep.state g.B.Copies.copied g.B.Lockstep.machine g.D.SectorStore.records (running_of c.args.self.now) course
    c.args.message c.args.node c.in-Some.packet.now c.in_err-held.field-0.0
    (c.station_mut.follows.lender c.deliver_acknowledgement.new.self).items brings h
    (λ generation held reports spelled. at_host h c.in_ok-station.ensures.found
    (c.station_mut.follows.holds c.deliver_acknowledgement.new.self (ap is_ok c.in_ok-station.was))
    (λ C drives x is. spelled_ack c.in-Some.packet.now x (Err c.in_err-held.field-0.0) (IsStation g.B.Lockstep.state g.B.Lockstep.machine C drives c.deliver_acknowledgement.new.self) spelled
    (c.in_err-held.ensures.answer C drives x is))))

pub returns-clause-row : goal.returns-clause-row
returns-clause-row g c = λ course h.
    let brings : option_and_then ack_of (slice_get c.args.self.now.messages.items c.args.message) ≡ Some c.in-Some.packet.now = sym c.in-Some.ensures in
    hears_applies g.B.Lockstep.state g.B.Copies.copied g.B.Lockstep.machine g.D.SectorStore.records (running_of c.args.self.now) course
    c.args.message c.args.node c.in-Some.packet.now c.in_ok-held.held
    (c.station_mut.follows.lender c.deliver_acknowledgement.new.self).items brings h
    (λ generation held reports spelled. at_host h c.in_ok-station.ensures.found
    (c.station_mut.follows.holds c.deliver_acknowledgement.new.self (ap is_ok c.in_ok-station.was))
    (λ C drives x is. spelled_ack c.in-Some.packet.now x (Ok c.in_ok-held.held) (IsStation g.B.Lockstep.state g.B.Lockstep.machine C drives c.deliver_acknowledgement.new.self) spelled
    (c.in_ok-held.ensures.answer C drives x is)))

pub returns-clause-pages : goal.returns-clause-pages
returns-clause-pages g c =
    pages_keep g.B.Lockstep.stale c.args.self.now.hosts.items (c.station_mut.follows.lender c.deliver_acknowledgement.new.self).items c.args.node
    c.in_ok-station.station.now c.deliver_acknowledgement.new.self c.in_ok-station.ensures.found
    (c.station_mut.follows.holds c.deliver_acknowledgement.new.self (ap is_ok c.in_ok-station.was)) c.in_ok-held.ensures.pages
