-- What holds at each exit from the steps, by the lemmas of `QuietSteps`.
use Rattle.std.proofs.Common.{◌≡◌, ◌∙◌, ◌+◌, ap, arith, refl}
use Rattle.guest_lockstep.specs.Pages.{stale_after}
use Rattle.guest_lockstep.specs.Running.{Begin}
use Rattle.guest_lockstep.proofs.QuietSteps.{all_turns, gives, goes_on, is_refused, joined_steps}
use Rattle.guest_lockstep.proofs.WrittenPages.{stale_at_first, stale_then}
use Rattle.guest_lockstep.proofs.running.run.Goals as goal

pub loop-steps-init : goal.loop-steps-init
loop-steps-init g c = record {
  within = omega arith;
  quiet = Begin;
  pages = stale_at_first g.B.Lockstep.machine g.B.Lockstep.writes (g.B.Lockstep.stale c.args.guest.now) (g.B.Lockstep.state c.args.guest.now);
  unchanged = λ none. refl;
}

pub loop-steps-preserved-in-Ok-None : goal.loop-steps-preserved-in-Ok-None
loop-steps-preserved-in-Ok-None g c = record {
  within = omega arith;
  quiet =
      goes_on g.B.Lockstep.machine (g.B.Lockstep.state c.args.guest.now) (g.B.Lockstep.state c.step_quietly-steps.new.self)
      (g.B.Lockstep.state c.step.new.self) (c.loop-steps.steps + c.step_quietly-steps.result)
      (joined_steps g.B.Lockstep.machine (g.B.Lockstep.state c.args.guest.now) (g.B.Lockstep.state c.loop-steps.guest)
      (g.B.Lockstep.state c.step_quietly-steps.new.self) c.loop-steps.steps c.step_quietly-steps.result
      (c.loop-steps.steps + c.step_quietly-steps.result) refl c.loop-steps.invariant.quiet c.step_quietly-steps.ensures.steps)
      (rw c.in-Ok-None.field-0-is at c.in-Ok-None.ensures.answer);
  pages = stale_then g.B.Lockstep.machine g.B.Lockstep.writes (g.B.Lockstep.stale c.args.guest.now)
      (g.B.Lockstep.stale c.step_quietly-steps.new.self) (g.B.Lockstep.stale c.step.new.self)
      (g.B.Lockstep.state c.args.guest.now) (g.B.Lockstep.state c.step_quietly-steps.new.self)
      (c.loop-steps.steps + c.step_quietly-steps.result) 1 (c.loop-steps.steps + c.step_quietly-steps.result + 1) refl
      (joined_steps g.B.Lockstep.machine (g.B.Lockstep.state c.args.guest.now) (g.B.Lockstep.state c.loop-steps.guest)
      (g.B.Lockstep.state c.step_quietly-steps.new.self) c.loop-steps.steps c.step_quietly-steps.result
      (c.loop-steps.steps + c.step_quietly-steps.result) refl c.loop-steps.invariant.quiet c.step_quietly-steps.ensures.steps)
      (stale_then g.B.Lockstep.machine g.B.Lockstep.writes (g.B.Lockstep.stale c.args.guest.now)
      (g.B.Lockstep.stale c.loop-steps.guest) (g.B.Lockstep.stale c.step_quietly-steps.new.self)
      (g.B.Lockstep.state c.args.guest.now) (g.B.Lockstep.state c.loop-steps.guest) c.loop-steps.steps
      c.step_quietly-steps.result (c.loop-steps.steps + c.step_quietly-steps.result) refl c.loop-steps.invariant.quiet
      c.loop-steps.invariant.pages c.step_quietly-steps.ensures.pages)
      c.in-Ok-None.ensures.pages;
  unchanged = λ none. absurd (omega arith);
}

pub returns-in-Ok-Some-clause-runs : goal.returns-in-Ok-Some-clause-runs
returns-in-Ok-Some-clause-runs g c =
    gives g.B.Lockstep.machine (g.B.Lockstep.state c.args.guest.now) (g.B.Lockstep.state c.step_quietly-steps.new.self)
    (g.B.Lockstep.state c.step.new.self) c.args.turns (c.loop-steps.steps + c.step_quietly-steps.result) c.in-Ok-Some.name
    (omega arith)
    (joined_steps g.B.Lockstep.machine (g.B.Lockstep.state c.args.guest.now) (g.B.Lockstep.state c.loop-steps.guest)
    (g.B.Lockstep.state c.step_quietly-steps.new.self) c.loop-steps.steps c.step_quietly-steps.result
    (c.loop-steps.steps + c.step_quietly-steps.result) refl c.loop-steps.invariant.quiet c.step_quietly-steps.ensures.steps)
    (rw c.in-Ok-Some.field-0-is at c.in-Ok-Some.ensures.answer)

pub returns-in-Err-clause-runs : goal.returns-in-Err-clause-runs
returns-in-Err-clause-runs g c =
    is_refused g.B.Lockstep.machine (g.B.Lockstep.state c.args.guest.now) (g.B.Lockstep.state c.step_quietly-steps.new.self)
    (g.B.Lockstep.state c.step.new.self) c.args.turns (c.loop-steps.steps + c.step_quietly-steps.result) c.in-Err.fault
    (omega arith)
    (joined_steps g.B.Lockstep.machine (g.B.Lockstep.state c.args.guest.now) (g.B.Lockstep.state c.loop-steps.guest)
    (g.B.Lockstep.state c.step_quietly-steps.new.self) c.loop-steps.steps c.step_quietly-steps.result
    (c.loop-steps.steps + c.step_quietly-steps.result) refl c.loop-steps.invariant.quiet c.step_quietly-steps.ensures.steps)
    c.in-Err.ensures.answer

pub returns-in-Err-clause-unchanged : goal.returns-in-Err-clause-unchanged
returns-in-Err-clause-unchanged g c = λ none.
    c.in-Err.ensures.unchanged
    ∙ (c.step_quietly-steps.ensures.unchanged (omega arith) ∙ c.loop-steps.invariant.unchanged (omega arith))

pub loop-steps-preserved : goal.loop-steps-preserved
loop-steps-preserved g c = record {
  within = omega arith;
  quiet =
      joined_steps g.B.Lockstep.machine (g.B.Lockstep.state c.args.guest.now) (g.B.Lockstep.state c.loop-steps.guest)
      (g.B.Lockstep.state c.step_quietly-steps.new.self) c.loop-steps.steps c.step_quietly-steps.result
      (c.loop-steps.steps + c.step_quietly-steps.result) refl c.loop-steps.invariant.quiet c.step_quietly-steps.ensures.steps;
  pages = stale_then g.B.Lockstep.machine g.B.Lockstep.writes (g.B.Lockstep.stale c.args.guest.now)
      (g.B.Lockstep.stale c.loop-steps.guest) (g.B.Lockstep.stale c.step_quietly-steps.new.self)
      (g.B.Lockstep.state c.args.guest.now) (g.B.Lockstep.state c.loop-steps.guest) c.loop-steps.steps
      c.step_quietly-steps.result (c.loop-steps.steps + c.step_quietly-steps.result) refl c.loop-steps.invariant.quiet
      c.loop-steps.invariant.pages c.step_quietly-steps.ensures.pages;
  unchanged = λ none. c.step_quietly-steps.ensures.unchanged (omega arith) ∙ c.loop-steps.invariant.unchanged (omega arith);
}

pub returns-clause-runs : goal.returns-clause-runs
returns-clause-runs g c =
    all_turns g.B.Lockstep.machine (g.B.Lockstep.state c.args.guest.now) (g.B.Lockstep.state c.loop-steps.guest)
    c.args.turns c.loop-steps.steps (omega (arith, c.loop-steps.invariant.within)) c.loop-steps.invariant.quiet

pub returns-in-Ok-Some-clause-pages : goal.returns-in-Ok-Some-clause-pages
returns-in-Ok-Some-clause-pages g c =
    stale_then g.B.Lockstep.machine g.B.Lockstep.writes (g.B.Lockstep.stale c.args.guest.now)
    (g.B.Lockstep.stale c.step_quietly-steps.new.self) (g.B.Lockstep.stale c.step.new.self)
    (g.B.Lockstep.state c.args.guest.now) (g.B.Lockstep.state c.step_quietly-steps.new.self)
    (c.loop-steps.steps + c.step_quietly-steps.result) 1 (c.loop-steps.steps + c.step_quietly-steps.result + 1) refl
    (joined_steps g.B.Lockstep.machine (g.B.Lockstep.state c.args.guest.now) (g.B.Lockstep.state c.loop-steps.guest)
    (g.B.Lockstep.state c.step_quietly-steps.new.self) c.loop-steps.steps c.step_quietly-steps.result
    (c.loop-steps.steps + c.step_quietly-steps.result) refl c.loop-steps.invariant.quiet c.step_quietly-steps.ensures.steps)
    (stale_then g.B.Lockstep.machine g.B.Lockstep.writes (g.B.Lockstep.stale c.args.guest.now)
    (g.B.Lockstep.stale c.loop-steps.guest) (g.B.Lockstep.stale c.step_quietly-steps.new.self)
    (g.B.Lockstep.state c.args.guest.now) (g.B.Lockstep.state c.loop-steps.guest) c.loop-steps.steps
    c.step_quietly-steps.result (c.loop-steps.steps + c.step_quietly-steps.result) refl c.loop-steps.invariant.quiet
    c.loop-steps.invariant.pages c.step_quietly-steps.ensures.pages)
    c.in-Ok-Some.ensures.pages

pub returns-in-Err-clause-pages : goal.returns-in-Err-clause-pages
returns-in-Err-clause-pages g c =
    ap g.B.Lockstep.stale c.in-Err.ensures.unchanged
    ∙ stale_then g.B.Lockstep.machine g.B.Lockstep.writes (g.B.Lockstep.stale c.args.guest.now)
    (g.B.Lockstep.stale c.loop-steps.guest) (g.B.Lockstep.stale c.step_quietly-steps.new.self)
    (g.B.Lockstep.state c.args.guest.now) (g.B.Lockstep.state c.loop-steps.guest) c.loop-steps.steps
    c.step_quietly-steps.result (c.loop-steps.steps + c.step_quietly-steps.result) refl c.loop-steps.invariant.quiet
    c.loop-steps.invariant.pages c.step_quietly-steps.ensures.pages

pub returns-clause-pages : goal.returns-clause-pages
returns-clause-pages g c =
    let all : c.loop-steps.steps ≡ c.args.turns = omega (arith, c.loop-steps.invariant.within) in
    c.loop-steps.invariant.pages
    ∙ ap (λ n. stale_after g.B.Lockstep.machine g.B.Lockstep.writes (g.B.Lockstep.stale c.args.guest.now)
    (g.B.Lockstep.state c.args.guest.now) n) all
