-- The replayer's moves are the backup's, as far as the entries fit.
use Rattle.ft_node.proofs.CheckedMoves.{backup_replays_checked}
use Rattle.ft_node.proofs.FollowerMoves.{backup_replays}
use Rattle.ft_node.proofs.backup.Backup.replay.Goals as goal

pub returns-clause-answer : goal.returns-clause-answer
returns-clause-answer g c = λ x f.
    backup_replays_checked g.B.Lockstep.machine c.args.self.now.reads x (g.B.Lockstep.state c.args.self.now.replayer.board)
    (g.B.Lockstep.state c.replay.new.self.board) c.args.self.now.replayer.fetched c.replay.new.self.fetched
    c.args.self.now.receiver c.replay.new.receiver c.args.turns
    c.replay.result f c.replay.ensures.held c.replay.ensures.answers

pub returns-clause-exactly : goal.returns-clause-exactly
returns-clause-exactly g c = λ on x f.
    backup_replays g.B.Lockstep.machine c.args.self.now.reads x (g.B.Lockstep.state c.args.self.now.replayer.board)
    (g.B.Lockstep.state c.replay.new.self.board) c.args.self.now.replayer.fetched c.replay.new.self.fetched
    c.args.self.now.receiver c.replay.new.receiver c.args.turns
    c.replay.result f c.replay.ensures.held (c.replay.ensures.exactly on)
