-- All workers are at their ends.
use Rattle.std.proofs.Common.{◌≡◌, subst}
use Rattle.std.specs.Prelude.{IfOk}
use Rattle.pair_threads.specs.Ending.{WonBy}
use Rattle.pair_threads.proofs.Ending.{came}
use Rattle.pair_threads.proofs.run.finish.Goals as goal

pub returns-clause-ends : goal.returns-clause-ends
returns-clause-ends g c = λ boot first lawful leads at store.
    let all = c.in_ok-failure_of.ensures.both in
    let guests = came c.failure_of.result all.0 c.failure_of.ensures.both in
    let others = came c.failure_of-3.result all.1 c.failure_of-3.ensures.both in
    let last = came c.failure_of-2.result others.1 c.failure_of-2.ensures.both in
    c.conclude.ensures.ends boot first lawful (came c.args.five.primary.1 guests.0 leads)
    (came c.args.five.backup.1 guests.1 at) (came c.args.five.disk.1 last.1 store)

pub returns-clause-left : goal.returns-clause-left
returns-clause-left g c = λ boot first lawful leads at store.
    let all = c.in_ok-failure_of.ensures.both in
    let guests = came c.failure_of.result all.0 c.failure_of.ensures.both in
    let others = came c.failure_of-3.result all.1 c.failure_of-3.ensures.both in
    let last = came c.failure_of-2.result others.1 c.failure_of-2.ensures.both in
    c.conclude.ensures.left boot first lawful (came c.args.five.primary.1 guests.0 leads)
    (came c.args.five.backup.1 guests.1 at) (came c.args.five.disk.1 last.1 store)

pub returns-clause-typed : goal.returns-clause-typed
returns-clause-typed g c = λ typed0 typed1 keys.
    let all = c.in_ok-failure_of.ensures.both in
    let guests = came c.failure_of.result all.0 c.failure_of.ensures.both in
    let both = came c.args.five.primary.1 guests.0 keys in
    subst (λ x. IfOk c.conclude.result (λ e. (e.typed0.items ≡ x) × (e.typed1.items ≡ typed1))) both.0
    (subst (λ x. IfOk c.conclude.result (λ e. (e.typed0.items ≡ c.args.five.primary.0.port0.typed.items)
    × (e.typed1.items ≡ x))) both.1 c.conclude.ensures.typed)

pub returns-clause-decided : goal.returns-clause-decided
returns-clause-decided g c = λ first second p b.
    let all = c.in_ok-failure_of.ensures.both in
    let guests = came c.failure_of.result all.0 c.failure_of.ensures.both in
    subst (λ x. IfOk c.conclude.result (λ e. WonBy x second e.winner)) (came c.args.five.primary.1 guests.0 p)
    (subst (λ x. IfOk c.conclude.result (λ e. WonBy c.args.five.primary.0.plan.contests_at x e.winner))
    (came c.args.five.backup.1 guests.1 b) c.conclude.ensures.decided)

pub returns-clause-ran : goal.returns-clause-ran
returns-clause-ran g c = λ boot first lawful leads kept at store.
    let all = c.in_ok-failure_of.ensures.both in
    let guests = came c.failure_of.result all.0 c.failure_of.ensures.both in
    let others = came c.failure_of-3.result all.1 c.failure_of-3.ensures.both in
    let last = came c.failure_of-2.result others.1 c.failure_of-2.ensures.both in
    c.conclude.ensures.ran boot first lawful (came c.args.five.primary.1 guests.0 leads)
    (came c.args.five.primary.1 guests.0 kept) (came c.args.five.backup.1 guests.1 at) (came c.args.five.disk.1 last.1 store)

pub returns-clause-there : goal.returns-clause-there
returns-clause-there g c = λ first there.
    let all = c.in_ok-failure_of.ensures.both in
    let others = came c.failure_of-3.result all.1 c.failure_of-3.ensures.both in
    let last = came c.failure_of-2.result others.1 c.failure_of-2.ensures.both in
    c.conclude.ensures.there first (came c.args.five.disk.1 last.1 there)
