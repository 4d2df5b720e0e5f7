-- At a backup its moves are those of the event; no other node replays.
use Rattle.log_entry.specs.Standing.{IsOnTrace}
use Rattle.pair_protocol.specs.Node.{Backup}
use Rattle.ft_node.specs.Roles.{IsFollower}
use Rattle.ft_node.proofs.node.Node.replay.Goals as goal

pub returns-in-Backup-clause-answer : goal.returns-in-Backup-clause-answer
returns-in-Backup-clause-answer g c = λ C drives x is.
    let old = c.in-Backup.backup in
    let f : IsFollower Backup old.reads (g.B.Lockstep.state old.replayer.board) old.replayer.fetched old.receiver x =
    rw c.in-Backup.is at is in
    c.replay.ensures.answer x f

pub returns-in-Backup-clause-exactly : goal.returns-in-Backup-clause-exactly
returns-in-Backup-clause-exactly g c = λ may C drives x is.
    let old = c.in-Backup.backup in
    let f : IsFollower Backup old.reads (g.B.Lockstep.state old.replayer.board) old.replayer.fetched old.receiver x =
    rw c.in-Backup.is at is in
    let on : IsOnTrace g.B.Lockstep.machine (g.B.Lockstep.state old.replayer.board) old.receiver.entries
    old.replayer.fetched = rw c.in-Backup.is at may in
    c.replay.ensures.exactly on x f
