-- An input that is refused has the inputs before it, and those after it.
use Rattle.std.proofs.Common.{◌≡◌, ◌+◌, take, drop, sym, subst, arith}
use Rattle.std.proofs.lemmas.List.{take_all}
use Rattle.guest_board.specs.Guest.{altair}
use Rattle.plain_single.specs.SingleState.{state_of}
use Rattle.plain_single.specs.Reaching.{StandsAt, Fails}
use Rattle.plain_single.proofs.Refusing.{fails_last, handed_on, refused_as, at_item}
use Rattle.plain_single.proofs.machine.Machine.follow.Goals as goal

pub returns-in_err-follow_one-clause-refused : goal.returns-in_err-follow_one-clause-refused
returns-in_err-follow_one-clause-refused c =
    handed_on c.from_residual.result _ _ c.from_residual.ensures.1 (λ fault is. λ setup sectors x.
    subst (Fails (altair setup sectors) c.args.inputs.now c.args.last) (sym is)
    (at_item (altair setup sectors) c.args.inputs.now c.loop-timed.timed-index c.args.last _ _ (omega arith)
    (c.in_err-follow_one.ensures.refused setup sectors (take c.loop-timed.timed-index c.args.inputs.now)
    (drop (c.loop-timed.timed-index + 1) c.args.inputs.now) (c.loop-timed.invariant.stands setup sectors x))))

pub returns-clause-refused : goal.returns-clause-refused
returns-clause-refused c =
    let all : take c.loop-timed.timed-index c.args.inputs.now ≡ c.args.inputs.now =
    take_all c.loop-timed.timed-index c.args.inputs.now (omega arith) in
    refused_as c.advance.result _ _ c.advance.ensures.refused (λ fault p. λ setup sectors x.
    fails_last (altair setup sectors) c.args.inputs.now c.args.last fault
    (p setup sectors c.args.inputs.now
    (subst (λ list. StandsAt (altair setup sectors) list (state_of c.loop-timed.self)) all
    (c.loop-timed.invariant.stands setup sectors x))))
