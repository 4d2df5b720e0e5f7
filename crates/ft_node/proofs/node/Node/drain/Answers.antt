-- With nothing left the node is alone; otherwise it is still draining, also where it is stuck.
use Rattle.std.proofs.Common.{subst, sym}
use Rattle.std.proofs.lemmas.Result.{err_from_is_err_and}
use Rattle.pair_protocol.specs.Node.{Draining}
use Rattle.ft_node.specs.Roles.{IsFollower}
use Rattle.ft_node.specs.AnyNode.{IsNode}
use Rattle.log_entry.specs.Standing.{IsOnTrace}
use Rattle.ft_node.proofs.LastMoves.{drained, drains_on, not_drained}
use Rattle.ft_node.proofs.CheckedMoves.{drained_checked, drains_on_checked, not_drained_checked}
use Rattle.ft_node.proofs.node.Node.drain.Goals as goal

pub returns-in-End-clause-answer : goal.returns-in-End-clause-answer
returns-in-End-clause-answer g c = λ C drives x is.
    let M = g.B.Lockstep.machine in
    let state = g.B.Lockstep.state in
    let reads = c.in-Draining.winner.reads in
    let old = c.in-Draining.winner.draining in
    let new = c.drain.new.self.draining in
    let f : IsFollower Draining reads (state old.replayer.board) old.replayer.fetched old.receiver x =
    rw c.in-Draining.is at is in
    drained_checked M reads x (state old.replayer.board) (state new.replayer.board) old.replayer.fetched
    new.replayer.fetched old.receiver new.receiver c.args.turns
    c.in_ok-replayed.replayed (IsNode state M C drives c.finish.new.self) f c.in_ok-replayed.ensures.held
    c.in_ok-replayed.ensures.answers c.in-End.is (λ y role all g. c.finish.ensures.node C drives y role all
    (subst (λ reads. IsFollower Draining reads (state new.replayer.board) new.replayer.fetched new.receiver y)
    (sym c.in_ok-replayed.ensures.reads) g))

pub returns-in_default-why-clause-answer : goal.returns-in_default-why-clause-answer
returns-in_default-why-clause-answer g c = λ C drives x is.
    let M = g.B.Lockstep.machine in
    let state = g.B.Lockstep.state in
    let reads = c.in-Draining.winner.reads in
    let old = c.in-Draining.winner.draining in
    let new = c.drain.new.self.draining in
    let f : IsFollower Draining reads (state old.replayer.board) old.replayer.fetched old.receiver x =
    rw c.in-Draining.is at is in
    rw c.in_ok-replayed.ensures.reads
    (drains_on_checked M reads x (state old.replayer.board) (state new.replayer.board) old.replayer.fetched
    new.replayer.fetched old.receiver new.receiver c.args.turns
    c.in_ok-replayed.replayed f c.in_ok-replayed.ensures.held c.in_ok-replayed.ensures.answers c.in_default-why.not-End)

pub returns-in_err-replayed-clause-answer : goal.returns-in_err-replayed-clause-answer
returns-in_err-replayed-clause-answer g c = λ C drives x is.
    let M = g.B.Lockstep.machine in
    let state = g.B.Lockstep.state in
    let reads = c.in-Draining.winner.reads in
    let old = c.in-Draining.winner.draining in
    let new = c.drain.new.self.draining in
    let f : IsFollower Draining reads (state old.replayer.board) old.replayer.fetched old.receiver x =
    rw c.in-Draining.is at is in
    let e = err_from_is_err_and c.from_residual.result c.from_residual.ensures.1 in
    rw (e.1, e.2, c.in_err-replayed.ensures.reads)
    (not_drained_checked M reads x (state old.replayer.board) (state new.replayer.board) old.replayer.fetched
    new.replayer.fetched old.receiver new.receiver c.args.turns
    c.in_err-replayed.field-0.0 f c.in_err-replayed.ensures.held c.in_err-replayed.ensures.answers)

-- ---- what it holds is of a recorded run

pub returns-in-End-clause-exactly : goal.returns-in-End-clause-exactly
returns-in-End-clause-exactly g c = λ may C drives x is.
    let M = g.B.Lockstep.machine in
    let state = g.B.Lockstep.state in
    let reads = c.in-Draining.winner.reads in
    let old = c.in-Draining.winner.draining in
    let new = c.drain.new.self.draining in
    let f : IsFollower Draining reads (state old.replayer.board) old.replayer.fetched old.receiver x =
    rw c.in-Draining.is at is in
    let on : IsOnTrace M (state old.replayer.board) old.receiver.entries old.replayer.fetched =
    rw c.in-Draining.is at may in
    drained M reads x (state old.replayer.board) (state new.replayer.board) old.replayer.fetched
    new.replayer.fetched old.receiver new.receiver c.args.turns
    c.in_ok-replayed.replayed (IsNode state M C drives c.finish.new.self) f c.in_ok-replayed.ensures.held
    (c.in_ok-replayed.ensures.exactly on) c.in-End.is (λ y role all g. c.finish.ensures.node C drives y role all
    (subst (λ reads. IsFollower Draining reads (state new.replayer.board) new.replayer.fetched new.receiver y)
    (sym c.in_ok-replayed.ensures.reads) g))

pub returns-in_default-why-clause-exactly : goal.returns-in_default-why-clause-exactly
returns-in_default-why-clause-exactly g c = λ may C drives x is.
    let M = g.B.Lockstep.machine in
    let state = g.B.Lockstep.state in
    let reads = c.in-Draining.winner.reads in
    let old = c.in-Draining.winner.draining in
    let new = c.drain.new.self.draining in
    let f : IsFollower Draining reads (state old.replayer.board) old.replayer.fetched old.receiver x =
    rw c.in-Draining.is at is in
    let on : IsOnTrace M (state old.replayer.board) old.receiver.entries old.replayer.fetched =
    rw c.in-Draining.is at may in
    rw c.in_ok-replayed.ensures.reads
    (drains_on M reads x (state old.replayer.board) (state new.replayer.board) old.replayer.fetched
    new.replayer.fetched old.receiver new.receiver c.args.turns
    c.in_ok-replayed.replayed f c.in_ok-replayed.ensures.held (c.in_ok-replayed.ensures.exactly on) c.in_default-why.not-End)

pub returns-in_err-replayed-clause-exactly : goal.returns-in_err-replayed-clause-exactly
returns-in_err-replayed-clause-exactly g c = λ may C drives x is.
    let M = g.B.Lockstep.machine in
    let state = g.B.Lockstep.state in
    let reads = c.in-Draining.winner.reads in
    let old = c.in-Draining.winner.draining in
    let new = c.drain.new.self.draining in
    let f : IsFollower Draining reads (state old.replayer.board) old.replayer.fetched old.receiver x =
    rw c.in-Draining.is at is in
    let on : IsOnTrace M (state old.replayer.board) old.receiver.entries old.replayer.fetched =
    rw c.in-Draining.is at may in
    let e = err_from_is_err_and c.from_residual.result c.from_residual.ensures.1 in
    rw (e.1, e.2, c.in_err-replayed.ensures.reads)
    (not_drained M reads x (state old.replayer.board) (state new.replayer.board) old.replayer.fetched
    new.replayer.fetched old.receiver new.receiver c.args.turns
    c.in_err-replayed.field-0.0 f c.in_err-replayed.ensures.held (c.in_err-replayed.ensures.exactly on))
