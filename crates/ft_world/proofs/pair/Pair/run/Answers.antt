-- Each event's answer comes after the others, as its row does in the run.
use Rattle.std.proofs.Common.{◌≡◌, ◌+◌, ◌∙◌, [], ap, arith, get_or, refl, subst, sym}
use Rattle.std.proofs.lemmas.List.{take_all}
use Rattle.shared_disk.specs.Failing.{before_failures}
use Rattle.ft_world.specs.Applies.{Runs, failures_over}
use Rattle.ft_world.specs.Chaining.{HaveApplied, Nothing}
use Rattle.ft_world.specs.Pairs.{running_of}
use Rattle.pair_events.specs.declared.event.Event.TheVariants as event
use Rattle.ft_world.proofs.Applying.{goes_on}
use Rattle.ft_world.proofs.Chaining.{applied_on}
use Rattle.ft_world.proofs.Counting.{counts_on}
use Rattle.ft_world.proofs.Running.{runs_begin, runs_on}
use Rattle.ft_world.proofs.SpareHosts.{after_event, left_here, left_then}
use Rattle.ft_world.proofs.pair.Pair.run.Goals as goal

pub loop-event-init : goal.loop-event-init
loop-event-init g c = record {
  shown = c.requires.shown;
  runs = λ course h.
      subst
      (λ answers. Runs g.B.Lockstep.state g.B.Copies.copied g.B.Lockstep.machine g.D.SectorStore.records course [] answers
      (running_of c.args.self.now))
      (sym c.in_ok-answers.ensures.items)
      (runs_begin g.B.Lockstep.state g.B.Copies.copied g.B.Lockstep.machine g.D.SectorStore.records (running_of c.args.self.now) course
      h);
  each = subst
      (λ answers. HaveApplied g.B.Lockstep.state g.B.Copies.copied g.B.Lockstep.machine g.D.SectorStore.records
      g.D.SectorStore.may_fail g.B.Lockstep.writes g.B.Lockstep.stale (running_of c.args.self.now) [] answers (running_of c.args.self.now))
      (sym c.in_ok-answers.ensures.items) Nothing;
  counted = refl;
  spares = left_here c.args.self.now.hosts.items;
  many = c.in_ok-answers.ensures.len;
  room = c.in_ok-answers.ensures.capacity;
}

pub loop-event-preserved : goal.loop-event-preserved
loop-event-preserved g c = record {
  shown = goes_on g.B.Lockstep.state g.B.Copies.copied g.B.Lockstep.machine g.D.SectorStore.records (running_of c.loop-event.self)
      (running_of c.apply-answer.new.self)
      (get_or c.args.events.now c.loop-event.event-index (event.Step 0 0)) c.apply-answer.result
      c.loop-event.invariant.shown c.apply-answer.ensures.row;
  runs = λ course h.
      runs_on g.B.Lockstep.state g.B.Copies.copied g.B.Lockstep.machine g.D.SectorStore.records (running_of c.args.self.now)
      (running_of c.loop-event.self) (running_of c.apply-answer.new.self) course c.args.events.now
      c.loop-event.event-index (event.Step 0 0) c.loop-event.answers.items c.push_reserved.new.self.items
      c.apply-answer.result h c.loop-event-test.true
      c.push_reserved.ensures.items (c.loop-event.invariant.runs course h) c.apply-answer.ensures.row;
  each = applied_on g.B.Lockstep.state g.B.Copies.copied g.B.Lockstep.machine g.D.SectorStore.records
      g.D.SectorStore.may_fail g.B.Lockstep.writes g.B.Lockstep.stale (running_of c.args.self.now) (running_of c.loop-event.self)
      (running_of c.apply-answer.new.self) c.args.events.now c.loop-event.event-index (event.Step 0 0)
      c.loop-event.answers.items c.push_reserved.new.self.items c.apply-answer.result c.loop-event-test.true c.push_reserved.ensures.items
      c.loop-event.invariant.each c.apply-answer.ensures;
  counted = counts_on c.args.events.now c.loop-event.event-index (event.Step 0 0) c.loop-event.answers.items
      c.push_reserved.new.self.items c.apply-answer.result (g.D.SectorStore.may_fail c.args.self.now.disk)
      (g.D.SectorStore.may_fail c.loop-event.self.disk) (g.D.SectorStore.may_fail c.apply-answer.new.self.disk)
      c.loop-event-test.true (sym c.loop-event.answers.ok.0 ∙ c.loop-event.invariant.many) c.push_reserved.ensures.items c.loop-event.invariant.counted
      c.apply-answer.ensures.counted;
  spares = left_then c.loop-event.invariant.spares
      (after_event (get_or c.args.events.now c.loop-event.event-index (event.Step 0 0)) c.apply-answer.result
      c.loop-event.self.hosts.items c.apply-answer.new.self.hosts.items c.apply-answer.ensures.spares);
  many = c.push_reserved.ensures.len ∙ ap (λ n. n + 1) c.loop-event.invariant.many;
  room = omega (arith, c.loop-event.invariant.room, c.push_reserved.ensures.capacity);
}

pub returns-clause-ok : goal.returns-clause-ok
returns-clause-ok g c = λ course h.
    subst
    (λ events. Runs g.B.Lockstep.state g.B.Copies.copied g.B.Lockstep.machine g.D.SectorStore.records course events
    c.loop-event.answers.items (running_of c.loop-event.self))
    (take_all c.loop-event.event-index c.args.events.now c.loop-event-test.false)
    (c.loop-event.invariant.runs course h)

pub returns-clause-each : goal.returns-clause-each
returns-clause-each g c =
    subst
    (λ events. HaveApplied g.B.Lockstep.state g.B.Copies.copied g.B.Lockstep.machine g.D.SectorStore.records
    g.D.SectorStore.may_fail g.B.Lockstep.writes g.B.Lockstep.stale (running_of c.args.self.now) events c.loop-event.answers.items
    (running_of c.loop-event.self))
    (take_all c.loop-event.event-index c.args.events.now c.loop-event-test.false) c.loop-event.invariant.each

pub returns-clause-counted : goal.returns-clause-counted
returns-clause-counted g c =
    subst
    (λ events. g.D.SectorStore.may_fail c.args.self.now.disk
    ≡ before_failures (failures_over events c.loop-event.answers.items) (g.D.SectorStore.may_fail c.loop-event.self.disk))
    (take_all c.loop-event.event-index c.args.events.now c.loop-event-test.false) c.loop-event.invariant.counted
