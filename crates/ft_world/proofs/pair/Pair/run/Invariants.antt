-- The events so far have happened, each with its answer, and there is room for the answers to those that are left.
use Rattle.std.proofs.Common.{◌≡◌, ◌≤◌, length, take}
use Rattle.std.specs.Prelude.{vec_capacity, vec_len}
use Rattle.ft_world.proofs.Words.{Course, HaveApplied, Shows, ShowsSome, SparesLeft, before_failures, failures_over}
use Rattle.ft_world.specs.Applies.{Runs}
use Rattle.ft_world.specs.Pairs.{running_of}
use Rattle.ft_world.proofs.pair.Pair.run.Given as goal

abbrev pub invariant-loop-event : goal.invariant-loop-event
invariant-loop-event g l = record {
  shown : ShowsSome g.B.Lockstep.state g.B.Copies.copied g.B.Lockstep.machine g.D.SectorStore.records (running_of l.self);
  runs : (c : Course g.B.Lockstep.State)
      → Shows g.B.Lockstep.state g.B.Copies.copied g.B.Lockstep.machine g.D.SectorStore.records (running_of l.fn.self) c
      → Runs g.B.Lockstep.state g.B.Copies.copied g.B.Lockstep.machine g.D.SectorStore.records c (take l.event-index l.fn.events)
      l.answers.items (running_of l.self);
  each : HaveApplied g.B.Lockstep.state g.B.Copies.copied g.B.Lockstep.machine g.D.SectorStore.records
      g.D.SectorStore.may_fail g.B.Lockstep.writes g.B.Lockstep.stale (running_of l.fn.self) (take l.event-index l.fn.events) l.answers.items
      (running_of l.self);
  counted : g.D.SectorStore.may_fail l.fn.self.disk
      ≡ before_failures (failures_over (take l.event-index l.fn.events) l.answers.items) (g.D.SectorStore.may_fail l.self.disk);
  spares : SparesLeft l.fn.self.hosts.items l.self.hosts.items;
  many : vec_len l.answers ≡ l.event-index;
  room : length l.fn.events ≤ vec_capacity l.answers;
}
