-- What its end of the channel holds, the backup holds.
use Rattle.ft_node.proofs.FollowerLog.{holds_next}
use Rattle.ft_node.proofs.backup.Backup.hold.Goals as goal

pub returns-clause-answer : goal.returns-clause-answer
returns-clause-answer g c = λ x f.
    holds_next c.args.self.now.reads x (g.B.Lockstep.state c.args.self.now.replayer.board)
    c.args.self.now.replayer.fetched c.args.self.now.receiver c.hold.new.self
    c.args.entry c.hold.result f c.hold.ensures
