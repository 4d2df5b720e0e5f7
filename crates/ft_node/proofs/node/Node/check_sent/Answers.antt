-- The byte that is due, and the log are what the protocol asks of the node.
use Rattle.ft_node.proofs.Inputs.{answers, sent, takes_input}
use Rattle.ft_node.proofs.node.Node.check_sent.Goals as goal

pub returns-clause-answer : goal.returns-clause-answer
returns-clause-answer g c = λ C drives x is.
    let M = g.B.Lockstep.machine in
    let board = c.in_ok-board.field-0.now in
    let takes =
    takes_input g.B.Lockstep.state M C drives c.args.self.now x board c.room.result is c.in_ok-board.ensures.takes
    (c.room.ensures.log C drives x is) in
    answers c.check_sent.result _ _ (sent M (g.B.Lockstep.state board) c.room.result x takes c.args.port c.args.number)
    c.check_sent.ensures.answer
