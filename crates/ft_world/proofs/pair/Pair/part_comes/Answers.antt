-- The message brings a part, or none; there is no such node, or it refuses, or it takes the part.
use Rattle.std.proofs.Common.{◌≡◌, Err, None, Ok, Some, ap, is_ok, sym}
use Rattle.std.specs.Option.{option_and_then}
use Rattle.std.specs.Prelude.{slice_get}
use Rattle.ft_world.specs.Messages.{part_of}
use Rattle.ft_world.specs.Pairs.{running_of}
use Rattle.ft_world.specs.Shows.{IsStation}
use Rattle.ft_world.proofs.Applying.{hands_on}
use Rattle.ft_world.proofs.AtHosts.{at_this_host, no_call}
use Rattle.ft_world.proofs.AtParts.{as_row, brings_part, part_applies, part_refused, part_unknown}
use Rattle.ft_world.proofs.CopiedPages.{pages_keep}
use Rattle.ft_world.proofs.pair.Pair.part_comes.Goals as goal

pub returns-in_default-clause-row : goal.returns-in_default-clause-row
returns-in_default-clause-row g c = λ course h.
    let brings : option_and_then part_of (slice_get c.args.self.now.messages.items c.args.message) ≡ None = sym c.in_default.ensures in
    part_unknown g.B.Lockstep.state g.B.Copies.copied g.B.Lockstep.machine g.D.SectorStore.records (running_of c.args.self.now)
    course c.args.message c.args.node brings h

pub returns-in_err-station-clause-row : goal.returns-in_err-station-clause-row
returns-in_err-station-clause-row g c = λ course h.
    let brings : option_and_then part_of (slice_get c.args.self.now.messages.items c.args.message) ≡ Some c.in-Some.bytes.now = sym c.in-Some.ensures in
    let b = brings_part (slice_get c.args.self.now.messages.items c.args.message)
    (slice_get course.world.messages c.args.message) c.in-Some.bytes.now (h.parts.messages.each c.args.message) brings in
    hands_on c.from_residual.result c.in_err-station.field-0.0 c.from_residual.ensures.1
    (part_refused g.B.Lockstep.state g.B.Copies.copied g.B.Lockstep.machine g.D.SectorStore.records (running_of c.args.self.now)
    course h c.args.message c.in-Some.bytes.now b c.args.node c.in_err-station.field-0.0
    c.station_mut.follows.lender-at-none.items
    (no_call h c.in_err-station.ensures.absent.0 c.in_err-station.ensures.absent.1
    (rw c.in_err-station.was at c.station_mut.follows.holds-at-none)))

pub returns-in_err-part-clause-row : goal.returns-in_err-part-clause-row
returns-in_err-part-clause-row g c = λ course h.
    let brings : option_and_then part_of (slice_get c.args.self.now.messages.items c.args.message) ≡ Some c.in-Some.bytes.now = sym c.in-Some.ensures in
    let b = brings_part (slice_get c.args.self.now.messages.items c.args.message)
    (slice_get course.world.messages c.args.message) c.in-Some.bytes.now (h.parts.messages.each c.args.message) brings in
    hands_on c.from_residual-in_err-part.result c.in_err-part.field-0.0 c.from_residual-in_err-part.ensures.1
    (part_refused g.B.Lockstep.state g.B.Copies.copied g.B.Lockstep.machine g.D.SectorStore.records (running_of c.args.self.now)
    course h c.args.message c.in-Some.bytes.now b c.args.node c.in_err-part.field-0.0
    (c.station_mut.follows.lender c.part.new.self).items
    (at_this_host h c.in_ok-station.ensures.found
    (c.station_mut.follows.holds c.part.new.self (ap is_ok c.in_ok-station.was))
    (λ x there is. as_row g.B.Lockstep.state g.B.Copies.copied g.B.Lockstep.machine g.D.SectorStore.records
    (running_of c.args.self.now) course h c.args.message c.in-Some.bytes.now b c.args.node x there
    (Err c.in_err-part.field-0.0) (IsStation g.B.Lockstep.state g.B.Lockstep.machine course.copying h.drives c.part.new.self)
    (c.in_err-part.ensures.answer course.copying h.drives x h.copies_as is))))

pub returns-clause-row : goal.returns-clause-row
returns-clause-row g c = λ course h.
    let brings : option_and_then part_of (slice_get c.args.self.now.messages.items c.args.message) ≡ Some c.in-Some.bytes.now = sym c.in-Some.ensures in
    let b = brings_part (slice_get c.args.self.now.messages.items c.args.message)
    (slice_get course.world.messages c.args.message) c.in-Some.bytes.now (h.parts.messages.each c.args.message) brings in
    part_applies g.B.Lockstep.state g.B.Copies.copied g.B.Lockstep.machine g.D.SectorStore.records (running_of c.args.self.now)
    course h c.args.message c.in-Some.bytes.now b c.args.node c.in_ok-part.part c.reply_to.result
    (c.station_mut.follows.lender c.part.new.self).items c.reply_to.ensures
    (at_this_host h c.in_ok-station.ensures.found
    (c.station_mut.follows.holds c.part.new.self (ap is_ok c.in_ok-station.was))
    (λ x there is. as_row g.B.Lockstep.state g.B.Copies.copied g.B.Lockstep.machine g.D.SectorStore.records
    (running_of c.args.self.now) course h c.args.message c.in-Some.bytes.now b c.args.node x there
    (Ok c.in_ok-part.part) (IsStation g.B.Lockstep.state g.B.Lockstep.machine course.copying h.drives c.part.new.self)
    (c.in_ok-part.ensures.answer course.copying h.drives x h.copies_as is)))

pub returns-clause-pages : goal.returns-clause-pages
returns-clause-pages g c =
    pages_keep g.B.Lockstep.stale c.args.self.now.hosts.items (c.station_mut.follows.lender c.part.new.self).items c.args.node
    c.in_ok-station.station.now c.part.new.self c.in_ok-station.ensures.found
    (c.station_mut.follows.holds c.part.new.self (ap is_ok c.in_ok-station.was)) c.in_ok-part.ensures.pages
