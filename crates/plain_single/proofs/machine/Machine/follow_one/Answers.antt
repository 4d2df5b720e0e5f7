-- The machine runs to the input's count, and then the input is taken.
use Rattle.std.proofs.Common.{◌≡◌, ◌<◌, ◌≤◌, [], ◌∷◌, ◌++◌, sym, subst, arith}
use Rattle.guest_board.specs.Guest.{altair}
use Rattle.plain_single.specs.SingleState.{state_of, input_refusal}
use Rattle.plain_single.specs.Reaching.{StandsAt, Fails, FailsBefore}
use Rattle.plain_single.proofs.Taking.{takes_on}
use Rattle.plain_single.proofs.Refusing.{fails_before, fails_by_input, fails_by_rest, handed_on, taken_or_not, not_taken, at_input, at_last}
use Rattle.plain_single.proofs.machine.Machine.follow_one.Goals as goal

pub returns-in_err-advance-clause-refused : goal.returns-in_err-advance-clause-refused
returns-in_err-advance-clause-refused c =
    handed_on c.from_residual.result _ _ c.from_residual.ensures.1 (λ fault is. λ setup sectors before after x.
    subst (Fails (altair setup sectors) (before ++ c.args.timed ∷ after) c.args.last) (sym is)
    (fails_before (altair setup sectors) before after c.args.timed c.args.last _
    (subst (λ n. FailsBefore (altair setup sectors) before n c.args.last c.in_err-advance.field-0.0) c.min.ensures
    (c.in_err-advance.ensures.refused setup sectors before x))))

pub returns-then-timed-last-clause-refused : goal.returns-then-timed-last-clause-refused
returns-then-timed-last-clause-refused c = λ setup sectors before after x.
    let late : c.args.last < c.args.timed.count = omega arith in
    let at : c.advance.new.self.count ≡ c.args.last =
    at_last c.args.self.now.count c.advance.new.self.count c.args.timed.count c.args.last
    c.requires.rising c.requires.within
    (subst (λ n. c.args.self.now.count ≤ n → c.advance.new.self.count ≡ n) c.min.ensures c.in_ok-advance.ensures.count)
    (omega (arith, late)) in
    fails_by_rest setup sectors before after (state_of c.advance.new.self) c.args.timed c.args.last
    (c.in_ok-advance.ensures.ok setup sectors before x) at late

pub returns-clause-ok : goal.returns-clause-ok
returns-clause-ok c =
    let at : c.advance.new.self.count ≡ c.args.timed.count =
    at_input c.args.self.now.count c.advance.new.self.count c.args.timed.count c.args.last
    c.requires.rising c.requires.within
    (subst (λ n. c.args.self.now.count ≤ n → c.advance.new.self.count ≡ n) c.min.ensures c.in_ok-advance.ensures.count)
    (omega arith) in
    taken_or_not c.take.result (input_refusal (state_of c.advance.new.self) c.args.timed.input)
    c.take.ensures.answer c.take.ensures.after c.take.ensures.sector c.take.ensures.disk
    (λ none after sector disk. λ setup sectors before x.
    subst (StandsAt (altair setup sectors) (before ++ c.args.timed ∷ [])) (sym after)
    (takes_on setup sectors before (state_of c.advance.new.self) c.args.timed c.take.new.self.disk.sectors.items
    (c.in_ok-advance.ensures.ok setup sectors before x) none sector (sym at) disk))

pub returns-clause-refused : goal.returns-clause-refused
returns-clause-refused c =
    let due : c.args.timed.count ≤ c.args.last = omega arith in
    let at : c.advance.new.self.count ≡ c.args.timed.count =
    at_input c.args.self.now.count c.advance.new.self.count c.args.timed.count c.args.last
    c.requires.rising c.requires.within
    (subst (λ n. c.args.self.now.count ≤ n → c.advance.new.self.count ≡ n) c.min.ensures c.in_ok-advance.ensures.count)
    due in
    not_taken c.take.result (input_refusal (state_of c.advance.new.self) c.args.timed.input) _ c.take.ensures.answer
    (λ fault some. λ setup sectors before after x.
    fails_by_input setup sectors before after (state_of c.advance.new.self) c.args.timed c.args.last fault
    (c.in_ok-advance.ensures.ok setup sectors before x) at due some)
