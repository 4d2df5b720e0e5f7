-- The hosts refuse it, or the node does, or the generation has begun.
use Rattle.std.proofs.Common.{[], ap, is_ok}
use Rattle.std.specs.Prelude.{slice_get}
use Rattle.ft_node.proofs.PassedChecks.{not_refused}
use Rattle.ft_world.specs.Opening.{host_refusal}
use Rattle.ft_world.specs.Pairs.{running_of}
use Rattle.ft_world.proofs.Applying.{hands_on}
use Rattle.ft_world.proofs.AtHosts.{at_this_host, no_call}
use Rattle.ft_world.proofs.Pairing.{alone_keys, alone_parts, begins_applies, refused_by_hosts, refused_by_node}
use Rattle.ft_world.proofs.SpareHosts.{check_refused, pairs, spare_still, spares_after}
use Rattle.ft_world.proofs.CopiedPages.{pages_joined, pages_keep}
use Rattle.ft_world.proofs.pair.Pair.begin_pair.Goals as goal

pub returns-in_err-check_pair-clause-row : goal.returns-in_err-check_pair-clause-row
returns-in_err-check_pair-clause-row g c = λ course h.
    hands_on c.from_residual.result c.in_err-check_pair.field-0.0 c.from_residual.ensures.1
    (refused_by_hosts g.B.Lockstep.state g.B.Copies.copied g.B.Lockstep.machine g.D.SectorStore.records (running_of c.args.self.now)
    course c.args.node c.args.host h c.in_err-check_pair.field-0.0
    (check_refused
    (host_refusal (slice_get c.args.self.now.hosts.items c.args.host) (slice_get c.args.self.now.hosts.items c.args.node))
    c.in_err-check_pair.field-0.0 c.in_err-check_pair.ensures))

pub returns-in_err-station-clause-row : goal.returns-in_err-station-clause-row
returns-in_err-station-clause-row g c = λ course h.
    let free = not_refused
    (host_refusal (slice_get c.args.self.now.hosts.items c.args.host) (slice_get c.args.self.now.hosts.items c.args.node))
    c.in_ok-check_pair.field-0 c.in_ok-check_pair.ensures in
    hands_on c.from_residual-in_err-station.result c.in_err-station.field-0.0 c.from_residual-in_err-station.ensures.1
    (refused_by_node g.B.Lockstep.state g.B.Copies.copied g.B.Lockstep.machine g.D.SectorStore.records (running_of c.args.self.now)
    course c.args.node c.args.host h free c.in_err-station.field-0.0 [] 0 c.station_mut.follows.lender-at-none.items
    (no_call h c.in_err-station.ensures.absent.0 c.in_err-station.ensures.absent.1
    (rw c.in_err-station.was at c.station_mut.follows.holds-at-none)))

pub returns-in_err-opening-clause-row : goal.returns-in_err-opening-clause-row
returns-in_err-opening-clause-row g c = λ course h.
    let old = running_of c.args.self.now in
    let free = not_refused
    (host_refusal (slice_get c.args.self.now.hosts.items c.args.host) (slice_get c.args.self.now.hosts.items c.args.node))
    c.in_ok-check_pair.field-0 c.in_ok-check_pair.ensures in
    hands_on c.from_residual-in_err-opening.result c.in_err-opening.field-0.0 c.from_residual-in_err-opening.ensures.1
    (refused_by_node g.B.Lockstep.state g.B.Copies.copied g.B.Lockstep.machine g.D.SectorStore.records old
    course c.args.node c.args.host h free c.in_err-opening.field-0.0
    c.in_ok-station.station.now.inputs c.in_ok-station.station.now.count (c.station_mut.follows.lender c.begin.new.self).items
    (at_this_host h c.in_ok-station.ensures.found
    (c.station_mut.follows.holds c.begin.new.self (ap is_ok c.in_ok-station.was))
    (λ x there is. c.in_err-opening.ensures.answer course.copying h.drives x h.copies_as
    (alone_keys g.B.Lockstep.state g.B.Copies.copied g.B.Lockstep.machine g.D.SectorStore.records old course c.args.node c.args.host h x there)
    (alone_parts g.B.Lockstep.state g.B.Copies.copied g.B.Lockstep.machine g.D.SectorStore.records old course c.args.node c.args.host h x there)
    is)))

pub returns-clause-row : goal.returns-clause-row
returns-clause-row g c = λ course h.
    let old = running_of c.args.self.now in
    let free = not_refused
    (host_refusal (slice_get c.args.self.now.hosts.items c.args.host) (slice_get c.args.self.now.hosts.items c.args.node))
    c.in_ok-check_pair.field-0 c.in_ok-check_pair.ensures in
    let p = pairs (slice_get c.args.self.now.hosts.items c.args.host) (slice_get c.args.self.now.hosts.items c.args.node) free in
    begins_applies g.B.Lockstep.state g.B.Copies.copied g.B.Lockstep.machine g.D.SectorStore.records old course c.args.node
    c.args.host h c.in_ok-station.station.now c.begin.new.self c.in_ok-opening.opening
    (c.station_mut.follows.lender c.begin.new.self).items c.join.new.hosts.items p.resources
    c.in_ok-station.ensures.found p.spare
    (c.station_mut.follows.holds c.begin.new.self (ap is_ok c.in_ok-station.was)) c.join.ensures
    (λ x there is. c.in_ok-opening.ensures.answer course.copying h.drives x h.copies_as
    (alone_keys g.B.Lockstep.state g.B.Copies.copied g.B.Lockstep.machine g.D.SectorStore.records old course c.args.node c.args.host h x there)
    (alone_parts g.B.Lockstep.state g.B.Copies.copied g.B.Lockstep.machine g.D.SectorStore.records old course c.args.node c.args.host h x there)
    is)

pub returns-clause-spares : goal.returns-clause-spares
returns-clause-spares g c =
    spares_after g.B.Lockstep.state g.B.Lockstep.machine c.args.self.now.hosts.items
    (c.station_mut.follows.lender c.begin.new.self).items c.join.new.hosts.items c.args.node c.args.host c.begin.new.self
    c.in_ok-opening.opening (c.station_mut.follows.holds c.begin.new.self (ap is_ok c.in_ok-station.was)) c.join.ensures

pub join-requires : goal.join-requires
join-requires g c =
    let free = not_refused
    (host_refusal (slice_get c.args.self.now.hosts.items c.args.host) (slice_get c.args.self.now.hosts.items c.args.node))
    c.in_ok-check_pair.field-0 c.in_ok-check_pair.ensures in
    spare_still c.args.self.now.hosts.items (c.station_mut.follows.lender c.begin.new.self).items c.args.node c.args.host
    c.begin.new.self free (c.station_mut.follows.holds c.begin.new.self (ap is_ok c.in_ok-station.was))

pub returns-clause-pages : goal.returns-clause-pages
returns-clause-pages g c =
    pages_joined g.B.Lockstep.stale g.B.Lockstep.state g.B.Lockstep.machine c.args.self.now.hosts.items
    (c.station_mut.follows.lender c.begin.new.self).items c.join.new.hosts.items c.args.host c.in_ok-opening.opening
    (pages_keep g.B.Lockstep.stale c.args.self.now.hosts.items (c.station_mut.follows.lender c.begin.new.self).items c.args.node
    c.in_ok-station.station.now c.begin.new.self c.in_ok-station.ensures.found
    (c.station_mut.follows.holds c.begin.new.self (ap is_ok c.in_ok-station.was)) c.in_ok-opening.ensures.pages)
    c.join.ensures
