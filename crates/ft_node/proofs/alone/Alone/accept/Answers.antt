-- The guest takes what it awaits.
use Rattle.ft_node.proofs.Inputs.{alone_accepts}
use Rattle.ft_node.proofs.alone.Alone.accept.Goals as goal

pub returns-clause-node : goal.returns-clause-node
returns-clause-node g c = λ x a.
    rw c.accept-index.ensures.reads
    (alone_accepts g.B.Lockstep.machine c.args.self.now.recorder.reads c.args.input x
    (g.B.Lockstep.state c.args.self.now.recorder.board) (g.B.Lockstep.state c.accept-index.new.self.board)
    c.args.self.now.generation a c.accept-index.ensures.after.0.taken)
