-- A step that is executed moves the trace on by one, and one that is refused ends it.
use Rattle.std.proofs.Common.{◌≡◌, ◌+◌, ◌<◌, ◌∙◌, ap, arith, sym, subst}
use Rattle.guest_board.specs.Guest.{altair}
use Rattle.plain_single.specs.SingleState.{SingleState, state_of, after_step}
use Rattle.plain_single.specs.Reaching.{StandsAt, FailsBefore}
use Rattle.plain_single.proofs.Standing.{steps_on, refused_step}
use Rattle.plain_single.proofs.Refusing.{handed_on}
use Rattle.plain_single.proofs.machine.Machine.advance.Goals as goal

-- the count after a step
counts : (a b : SingleState) → b ≡ after_step a → b.count ≡ a.count + 1
counts a b e = ap (λ x. x.count) e

pub loop-preserved : goal.loop-preserved
loop-preserved c = record {
  count = counts (state_of c.loop.self) (state_of c.step.new.self) ((c.in_ok-step.ensures).after)
      ∙ ap (λ n. n + 1) c.loop.invariant.count;
  stands = λ setup sectors list x.
      subst (StandsAt (altair setup sectors) list) (sym (c.in_ok-step.ensures).after)
      (steps_on c.args.last setup sectors list (state_of c.loop.self) (c.loop.invariant.stands setup sectors list x)
      (c.in_ok-step.ensures).can);
}

pub returns-in_err-step-clause-refused : goal.returns-in_err-step-clause-refused
returns-in_err-step-clause-refused c =
    let early : c.loop.self.count < c.args.target = omega (arith, c.loop.invariant.count) in
    handed_on c.from_residual.result _ _ c.from_residual.ensures.1 (λ fault is. λ setup sectors list x.
    subst (FailsBefore (altair setup sectors) list c.args.target c.args.last) (sym is)
    (refused_step setup sectors list (state_of c.loop.self) c.args.target c.args.last _
    (c.loop.invariant.stands setup sectors list x) early c.in_err-step.ensures.refused))
