-- The machine that runs is a copy of one at boot.
use Rattle.std.proofs.Common.{◌≡◌, ◌∙◌, sym, subst}
use Rattle.guest_board.specs.Guest.{altair}
use Rattle.plain_single.specs.SingleState.{state_of}
use Rattle.plain_single.specs.Reaching.{IsAtBoot, Fails}
use Rattle.plain_single.proofs.Boot.{at_first}
use Rattle.plain_single.proofs.Refusing.{handed_on}
use Rattle.plain_single.proofs.Tracing.{only_memory}
use Rattle.plain_single.proofs.single.Single.run.Goals as goal

pub returns-in_err-follow-clause-refused : goal.returns-in_err-follow-clause-refused
returns-in_err-follow-clause-refused c =
    let same : c.args.self.now ≡ state_of c.in_ok-machine.machine = cc (c.in_ok-machine.ensures.ok, c.self.view_is) in
    handed_on c.from_residual-in_err-follow.result _ _ c.from_residual-in_err-follow.ensures.1 (λ fault is. λ setup sectors x.
    subst (Fails (altair setup sectors) c.args.inputs.now c.args.count) (sym is)
    (c.in_err-follow.ensures.refused setup sectors
    (at_first setup sectors (state_of c.in_ok-machine.machine) (subst (IsAtBoot (altair setup sectors)) same x))))

pub returns-in_err-follow-clause-reaches : goal.returns-in_err-follow-clause-reaches
returns-in_err-follow-clause-reaches c =
    let same : c.args.self.now ≡ state_of c.in_ok-machine.machine = cc (c.in_ok-machine.ensures.ok, c.self.view_is) in
    λ setup sectors moves x reach.
    handed_on c.from_residual-in_err-follow.result _ _ c.from_residual-in_err-follow.ensures.1 (λ fault is.
    is ∙ only_memory (altair setup sectors) c.args.inputs.now c.args.count moves _ reach
    (c.in_err-follow.ensures.refused setup sectors
    (at_first setup sectors (state_of c.in_ok-machine.machine) (subst (IsAtBoot (altair setup sectors)) same x))))

pub returns-clause-ok : goal.returns-clause-ok
returns-clause-ok c = λ setup sectors x.
    let same : c.args.self.now ≡ state_of c.in_ok-machine.machine = cc (c.in_ok-machine.ensures.ok, c.self.view_is) in
    record {
      stands = c.in_ok-follow.ensures.ok setup sectors
          (at_first setup sectors (state_of c.in_ok-machine.machine) (subst (IsAtBoot (altair setup sectors)) same x));
      count_is = c.in_ok-follow.ensures.count;
    }
