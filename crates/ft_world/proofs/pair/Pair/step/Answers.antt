-- There is no such node, or it refuses, or its machine makes steps.
use Rattle.std.proofs.Common.{ap, is_ok}
use Rattle.ft_world.specs.Pairs.{running_of}
use Rattle.ft_world.proofs.Applying.{hands_on}
use Rattle.ft_world.proofs.AtHosts.{at_host, no_call}
use Rattle.ft_world.proofs.AtMoves.{steps_applies, steps_refused}
use Rattle.ft_world.proofs.Standing.{station_may_run}
use Rattle.ft_node.specs.Pages.{StepsWrite}
use Rattle.ft_world.proofs.CopiedPages.{pages_change}
use Rattle.ft_world.proofs.pair.Pair.step.Goals as goal

pub step-requires : goal.step-requires
step-requires g c =
    record {
      few =
          station_may_run g.B.Lockstep.state g.B.Copies.copied g.B.Lockstep.machine g.D.SectorStore.records (running_of c.args.self.now)
          c.args.node c.in_ok-station.station.now c.requires.shown c.in_ok-station.ensures.found;
    }

pub returns-in_err-station-clause-row : goal.returns-in_err-station-clause-row
returns-in_err-station-clause-row g c = λ course h.
    hands_on c.from_residual.result c.in_err-station.field-0.0 c.from_residual.ensures.1
    (steps_refused g.B.Lockstep.state g.B.Copies.copied g.B.Lockstep.machine g.D.SectorStore.records (running_of c.args.self.now) course
    c.args.node c.args.turns c.in_err-station.field-0.0 c.station_mut.follows.lender-at-none.items h
    (no_call h c.in_err-station.ensures.absent.0 c.in_err-station.ensures.absent.1
    (rw c.in_err-station.was at c.station_mut.follows.holds-at-none)))

pub returns-in_err-ran-clause-row : goal.returns-in_err-ran-clause-row
returns-in_err-ran-clause-row g c = λ course h.
    hands_on c.from_residual-in_err-ran.result c.in_err-ran.field-0.0 c.from_residual-in_err-ran.ensures.1
    (steps_refused g.B.Lockstep.state g.B.Copies.copied g.B.Lockstep.machine g.D.SectorStore.records (running_of c.args.self.now) course
    c.args.node c.args.turns c.in_err-ran.field-0.0 (c.station_mut.follows.lender c.step.new.self).items h
    (at_host h c.in_ok-station.ensures.found
    (c.station_mut.follows.holds c.step.new.self (ap is_ok c.in_ok-station.was)) c.in_err-ran.ensures.answer))

pub returns-clause-row : goal.returns-clause-row
returns-clause-row g c = λ course h.
    steps_applies g.B.Lockstep.state g.B.Copies.copied g.B.Lockstep.machine g.D.SectorStore.records (running_of c.args.self.now) course
    c.args.node c.args.turns c.in_ok-ran.ran (c.station_mut.follows.lender c.step.new.self).items h
    (at_host h c.in_ok-station.ensures.found
    (c.station_mut.follows.holds c.step.new.self (ap is_ok c.in_ok-station.was)) c.in_ok-ran.ensures.answer)

pub returns-clause-pages : goal.returns-clause-pages
returns-clause-pages g c =
    pages_change g.B.Lockstep.stale c.args.self.now.hosts.items (c.station_mut.follows.lender c.step.new.self).items c.args.node
    c.in_ok-station.station.now c.step.new.self c.in_ok-station.ensures.found
    (c.station_mut.follows.holds c.step.new.self (ap is_ok c.in_ok-station.was))
    (StepsWrite g.B.Lockstep.state g.B.Lockstep.machine g.B.Lockstep.writes g.B.Lockstep.stale c.in_ok-ran.ran.steps)
    c.in_ok-ran.ensures.pages
