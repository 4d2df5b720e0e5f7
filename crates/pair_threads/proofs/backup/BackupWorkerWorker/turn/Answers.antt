-- The worker has come from the first one by way of the one before this turn.
use Rattle.std.proofs.Common.{inl}
use Rattle.std.proofs.lemmas.Result.{on_ok_weaker}
use Rattle.pair_threads.proofs.Repeating.{asks_now, comes_on, goes_same, still_asked}
use Rattle.pair_threads.proofs.backup.BackupWorkerWorker.turn.Goals as goal

pub returns-then-self-clause-came : goal.returns-then-self-clause-came
returns-then-self-clause-came g c = λ first came.
    let old = c.args.self.now in
    let new = c.drain.new.self in
    let state = g.B.Lockstep.state in
    let M = g.B.Lockstep.machine in
    let same = c.drain.ensures.same.0 in
    on_ok_weaker c.drain.result (λ goes. comes_on state M first old new same came
    (still_asked state M first old new same came c.drain.ensures.seat) goes) c.drain.ensures.goes_on

pub returns-then-asks_at-clause-came : goal.returns-then-asks_at-clause-came
returns-then-asks_at-clause-came g c = λ first came.
    let old = c.args.self.now in
    let new = c.contest.new.self in
    let state = g.B.Lockstep.state in
    let M = g.B.Lockstep.machine in
    let same = c.contest.ensures.same.0 in
    comes_on state M first old new same came
    (asks_now state M first old new same came c.args.number (c.asks_at.ensures.0 c.if-asks_at.true))
    (goes_same state M old.guest new.guest c.contest.ensures.same.1)

pub returns-clause-came : goal.returns-clause-came
returns-clause-came g c = λ first came.
    let old = c.args.self.now in
    let new = c.follow.new.self in
    let state = g.B.Lockstep.state in
    let M = g.B.Lockstep.machine in
    let same = c.follow.ensures.same.0 in
    on_ok_weaker c.follow.result (λ goes. comes_on state M first old new same came (inl c.follow.ensures.before) goes)
    c.follow.ensures.goes_on
