-- It has replayed all if its end of the channel has no entry left.
use Rattle.ft_node.proofs.RunningAhead.{may_if_replayed}
use Rattle.ft_node.proofs.backup.Backup.may_run_ahead.Goals as goal

pub returns-then-is_empty : goal.returns-then-is_empty
returns-then-is_empty g c = λ x f.
    may_if_replayed g.B.Lockstep.machine c.args.self.now.reads x (g.B.Lockstep.state c.args.self.now.replayer.board)
    c.args.self.now.replayer.fetched c.args.self.now.receiver f c.args.lead c.held.result
    (c.is_empty.ensures.0 c.if-is_empty.true) c.held.ensures.held
