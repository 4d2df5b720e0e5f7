-- The node takes what its role takes.
use Rattle.ft_node.specs.Roles.{HasImage, IsAlone, IsPrimary}
use Rattle.ft_node.proofs.node.Node.accept.Goals as goal

pub returns-in-Primary-clause-node : goal.returns-in-Primary-clause-node
returns-in-Primary-clause-node g c = λ C drives x is.
    let primary = c.in-Primary.primary in
    let p : IsPrimary g.B.Lockstep.machine (HasImage C primary.sender.generation primary.image)
    primary.recorder.reads (g.B.Lockstep.state primary.recorder.board) primary.recorder.log
    primary.sender primary.coverage x =
    rw c.in-Primary.is at is in
    c.accept.ensures C x p

pub returns-in-Alone-clause-node : goal.returns-in-Alone-clause-node
returns-in-Alone-clause-node g c = λ C drives x is.
    let a : IsAlone c.in-Alone.alone.recorder.reads (g.B.Lockstep.state c.in-Alone.alone.recorder.board) c.in-Alone.alone.generation x = rw c.in-Alone.is at is in
    c.accept-in-Alone.ensures.node x a
