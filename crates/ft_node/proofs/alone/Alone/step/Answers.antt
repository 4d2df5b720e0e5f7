-- The recorder's advance is what the node makes.
use Rattle.std.proofs.Common.{ap, ◌∙◌}
use Rattle.std.proofs.lemmas.Result.{err_from_is_err_and}
use Rattle.ft_node.proofs.AloneSteps.{made, none_made}
use Rattle.ft_node.proofs.alone.Alone.step.Goals as goal

pub returns-in_err-steps-clause-answer : goal.returns-in_err-steps-clause-answer
returns-in_err-steps-clause-answer g c = λ x a.
    let M = g.B.Lockstep.machine in
    let state = g.B.Lockstep.state in
    let old = c.args.self.now.recorder in
    let new = c.advance.new.self in
    let e = err_from_is_err_and c.from_residual.result c.from_residual.ensures.1 in
    rw (e.1, e.2, c.in_err-steps.ensures.reads)
    (none_made M x (state old.board) (state new.board) old.log new.log c.args.self.now.generation c.args.turns a
    c.in_err-steps.field-0.0 c.in_err-steps.ensures.answer)

pub returns-clause-answer : goal.returns-clause-answer
returns-clause-answer g c = λ x a.
    let M = g.B.Lockstep.machine in
    let state = g.B.Lockstep.state in
    let old = c.args.self.now.recorder in
    let new = c.advance.new.self in
    rw c.in_ok-steps.ensures.reads
    (made M x (state old.board) (state new.board) old.log new.log c.args.self.now.generation c.args.turns a
    c.count.result c.in_ok-steps.field-0 c.in_ok-steps.ensures.answer
    (c.count.ensures.value ∙ ap (λ board. M.count (state board)) c.board.ensures))
