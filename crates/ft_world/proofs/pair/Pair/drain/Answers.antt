-- There is no such node, or it refuses, or it moves by what it still holds, and is alone if none of it is left.
use Rattle.std.proofs.Common.{ap, is_ok}
use Rattle.ft_world.specs.Pairs.{running_of}
use Rattle.ft_world.proofs.Applying.{hands_on}
use Rattle.ft_world.proofs.AtHosts.{at_host, no_call}
use Rattle.ft_world.proofs.AtMoves.{drains_applies, drains_refused, station_may_replay}
use Rattle.ft_world.proofs.CopiedPages.{pages_keep}
use Rattle.ft_world.proofs.pair.Pair.drain.Goals as goal

pub drain-requires : goal.drain-requires
drain-requires g c =
    record {
      on_trace =
          station_may_replay g.B.Lockstep.state g.B.Copies.copied g.B.Lockstep.machine g.D.SectorStore.records (running_of c.args.self.now)
          c.args.node c.in_ok-station.station.now c.requires.shown c.in_ok-station.ensures.found;
    }

pub returns-in_err-station-clause-row : goal.returns-in_err-station-clause-row
returns-in_err-station-clause-row g c = λ course h.
    hands_on c.from_residual.result c.in_err-station.field-0.0 c.from_residual.ensures.1
    (drains_refused g.B.Lockstep.state g.B.Copies.copied g.B.Lockstep.machine g.D.SectorStore.records (running_of c.args.self.now)
    course c.args.node c.args.turns c.in_err-station.field-0.0 c.station_mut.follows.lender-at-none.items h
    (no_call h c.in_err-station.ensures.absent.0 c.in_err-station.ensures.absent.1
    (rw c.in_err-station.was at c.station_mut.follows.holds-at-none)))

pub returns-in_err-drained-clause-row : goal.returns-in_err-drained-clause-row
returns-in_err-drained-clause-row g c = λ course h.
    hands_on c.from_residual-in_err-drained.result c.in_err-drained.field-0.0 c.from_residual-in_err-drained.ensures.1
    (drains_refused g.B.Lockstep.state g.B.Copies.copied g.B.Lockstep.machine g.D.SectorStore.records (running_of c.args.self.now)
    course c.args.node c.args.turns c.in_err-drained.field-0.0 (c.station_mut.follows.lender c.drain.new.self).items h
    (at_host h c.in_ok-station.ensures.found
    (c.station_mut.follows.holds c.drain.new.self (ap is_ok c.in_ok-station.was)) c.in_err-drained.ensures.answer))

pub returns-clause-row : goal.returns-clause-row
returns-clause-row g c = λ course h.
    drains_applies g.B.Lockstep.state g.B.Copies.copied g.B.Lockstep.machine g.D.SectorStore.records (running_of c.args.self.now)
    course c.args.node c.args.turns c.in_ok-drained.drained c.reply_to.result (c.station_mut.follows.lender c.drain.new.self).items
    c.reply_to.ensures h
    (at_host h c.in_ok-station.ensures.found
    (c.station_mut.follows.holds c.drain.new.self (ap is_ok c.in_ok-station.was)) c.in_ok-drained.ensures.answer)

pub returns-clause-pages : goal.returns-clause-pages
returns-clause-pages g c =
    pages_keep g.B.Lockstep.stale c.args.self.now.hosts.items (c.station_mut.follows.lender c.drain.new.self).items c.args.node
    c.in_ok-station.station.now c.drain.new.self c.in_ok-station.ensures.found
    (c.station_mut.follows.holds c.drain.new.self (ap is_ok c.in_ok-station.was)) c.in_ok-drained.ensures.pages
