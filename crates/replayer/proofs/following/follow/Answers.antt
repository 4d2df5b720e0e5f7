-- An entry that is past, and one at the guest's count.
use Rattle.std.proofs.Common.{sym, subst, ◌∙◌, arith}
use Rattle.replayer.specs.Following.{TakesIf}
use Rattle.replayer.proofs.FollowedEntries.{input_refused, input_taken, is_past, mark_is_past}
use Rattle.replayer.proofs.following.follow.Goals as goal

pub returns-then-now-count-2-clause-answer : goal.returns-then-now-count-2-clause-answer
returns-then-now-count-2-clause-answer g c =
    let at = c.count-now.ensures.value in
    let count = c.count-2.ensures in
    let past = c.if-now-count-2.true in
    is_past g.B.Lockstep.machine g.met.B.Lockstep.counts (g.B.Lockstep.state c.args.board.now) c.args.entry.now
    c.args.turns (omega arith)

pub returns-in-Some-clause-answer : goal.returns-in-Some-clause-answer
returns-in-Some-clause-answer g c =
    let at = c.count-now.ensures.value in
    let first = c.count.ensures in
    let count = c.count-2.ensures in
    let not_before = c.if-now-count.false in
    let not_past = c.if-now-count-2.false in
    input_taken g.B.Lockstep.machine (g.B.Lockstep.state c.args.board.now) (g.B.Lockstep.state c.take.new.board)
    c.args.entry.now c.in-Some.input (omega arith) (sym c.input.ensures ∙ c.in-Some.is)
    (subst (λ taken. TakesIf g.B.Lockstep.machine (g.B.Lockstep.state c.args.board.now) c.in-Some.input taken
    (g.B.Lockstep.state c.take.new.board)) c.if-take.true c.take.ensures.answer)

pub returns-in_default-clause-answer : goal.returns-in_default-clause-answer
returns-in_default-clause-answer g c =
    let at = c.count-now.ensures.value in
    let first = c.count.ensures in
    let count = c.count-2.ensures in
    let not_before = c.if-now-count.false in
    let not_past = c.if-now-count-2.false in
    let none = subst (λ taken. TakesIf g.B.Lockstep.machine (g.B.Lockstep.state c.args.board.now) c.in-Some.input taken
    (g.B.Lockstep.state c.take.new.board)) c.if-take.false c.take.ensures.answer in
    input_refused g.B.Lockstep.machine g.met.B.Lockstep.counts (g.B.Lockstep.state c.args.board.now)
    (g.B.Lockstep.state c.take.new.board) c.args.entry.now c.in-Some.input c.args.turns (omega arith)
    (sym c.input.ensures ∙ c.in-Some.is) none.0 none.1

pub returns-in_default-2-clause-answer : goal.returns-in_default-2-clause-answer
returns-in_default-2-clause-answer g c =
    let at = c.count-now.ensures.value in
    let first = c.count.ensures in
    let count = c.count-2.ensures in
    let not_before = c.if-now-count.false in
    let not_past = c.if-now-count-2.false in
    mark_is_past g.B.Lockstep.machine g.met.B.Lockstep.counts (g.B.Lockstep.state c.args.board.now) c.args.entry.now
    c.args.turns (omega arith) (sym c.input.ensures ∙ c.in_default.is)
