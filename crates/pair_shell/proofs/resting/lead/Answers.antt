-- What the tape said before the next event, it says after it, with that event.
use Rattle.std.proofs.Common.{◌∙◌, ap}
use Rattle.pair_shell.specs.declared.plan.RestPlan.{RestPlan}
use Rattle.shell_language.specs.Tapes.{played}
use Rattle.pair_shell.proofs.Playing.{plays_more}
use Rattle.pair_shell.proofs.resting.lead.Goals as goal

pub returns-in_err-answer-clause-played : goal.returns-in_err-answer-clause-played
returns-in_err-answer-clause-played g c = c.in_err-answer.ensures.happened c.args.world.now c.events.invariant.0.plays

pub returns-in-Some-failure-clause-played : goal.returns-in-Some-failure-clause-played
returns-in-Some-failure-clause-played g c =
    (plays_more g.B.Lockstep.state g.B.Copies.copied g.B.Lockstep.machine c.args.world.now c.events.world c.play_next.new.world
    c.events._made c.events.tape.items c.play_next.new.tape.items (played c.in-Some.event c.in_ok-answer.answer)
    c.events.invariant.0 c.in_ok-answer.ensures.taped c.in_ok-answer.ensures.happened).plays

pub events-preserved : goal.events-preserved
events-preserved g c = (
  plays_more g.B.Lockstep.state g.B.Copies.copied g.B.Lockstep.machine c.args.world.now c.events.world c.play_next.new.world
      c.events._made c.events.tape.items c.play_next.new.tape.items (played c.in-Some.event c.in_ok-answer.answer)
      c.events.invariant.0 c.in_ok-answer.ensures.taped c.in_ok-answer.ensures.happened,
  (
    ap (λ (p : RestPlan). p.hosts) c.hear.ensures ∙ c.events.invariant.1.0,
    ap (λ (p : RestPlan). p.parts) c.hear.ensures ∙ c.events.invariant.1.1,
  ),
)
