-- What holds at each exit from a stretch, by the lemmas of `OneMove` and `Stretches`.
use Rattle.std.proofs.Common.{false, refl, sym, ap, subst, ◌∙◌, arith}
use Rattle.log_channel.proofs.HeldEntries.{no_first}
use Rattle.replayer.specs.Following.{TakesIf}
use Rattle.replayer.proofs.OneMove.{not_empty, is_past, not_accepted, takes, passes}
use Rattle.replayer.proofs.Stretches.{steps_made, refused_step, fits_nowhere, one_move}
use Rattle.replayer.proofs.replay.stretch.Goals as goal

pub unreachable-requires : goal.unreachable-requires
unreachable-requires g c =
    not_empty g.B.Lockstep.machine (g.B.Lockstep.state c.args.board.now) c.args.receiver.now.entries c.args.fetched.now
    c.requires.ready (no_first c.args.receiver.now.entries (sym c.in_default.ensures.entry))

-- ---- an entry whose count is past

pub returns-then-now-count-clause-answers : goal.returns-then-now-count-clause-answers
returns-then-now-count-clause-answers g c =
    let first = c.count.ensures in
    let at = c.count-now.ensures.value in
    let past = c.if-now-count.true in
    fits_nowhere g.B.Lockstep.machine (g.B.Lockstep.state c.args.board.now) (g.B.Lockstep.state c.args.board.now)
    c.args.receiver.now.entries c.args.fetched.now c.args.turns refl
    (is_past g.B.Lockstep.machine (g.B.Lockstep.state c.args.board.now) c.args.receiver.now.entries c.args.fetched.now
    c.in-Some.front.now c.requires.ready (sym c.in-Some.ensures.entry) (omega arith))

-- ---- steps

pub returns-then-stopped-gt0-clause-answers : goal.returns-then-stopped-gt0-clause-answers
returns-then-stopped-gt0-clause-answers g c =
    let first = c.count-2.ensures in
    let at = c.count-now.ensures.value in
    let ahead = c.if-ahead-gt0.true in
    let most = c.min.ensures in
    steps_made g.B.Lockstep.machine (g.B.Lockstep.state c.args.board.now) (g.B.Lockstep.state c.run-stopped.new.guest)
    c.args.receiver.now.entries c.args.fetched.now c.in-Some.front.now c.args.turns c.min.result c.run-stopped.result
    g.met.B.Lockstep.counts
    (sym c.in-Some.ensures.entry) (omega arith) (omega arith) c.run-stopped.ensures.runs c.if-stopped-gt0.true

pub returns-then-ahead-gt0-clause-answers : goal.returns-then-ahead-gt0-clause-answers
returns-then-ahead-gt0-clause-answers g c =
    let first = c.count-2.ensures in
    let at = c.count-now.ensures.value in
    let ahead = c.if-ahead-gt0.true in
    let most = c.min.ensures in
    let some = c.requires.some in
    let none = c.if-stopped-gt0.false in
    rw c.seen.ensures
    (refused_step g.B.Lockstep.machine (g.B.Lockstep.state c.args.board.now) (g.B.Lockstep.state c.run-stopped.new.guest)
    c.args.receiver.now.entries c.args.fetched.now c.in-Some.front.now c.args.turns c.min.result c.run-stopped.result
    c.in-Refused.fault
    g.met.B.Lockstep.counts c.requires.ready (sym c.in-Some.ensures.entry) (omega arith) (omega arith)
    c.run-stopped.ensures.runs c.in-Refused.is (omega arith))

-- ---- a mark

pub returns-in_default-input_with-clause-answers : goal.returns-in_default-input_with-clause-answers
returns-in_default-input_with-clause-answers g c =
    let first = c.count-2.ensures in
    let at = c.count-now.ensures.value in
    let not_past = c.if-now-count.false in
    let also = c.count.ensures in
    let none_ahead = c.if-ahead-gt0.false in
    one_move g.B.Lockstep.machine (g.B.Lockstep.state c.args.board.now) (g.B.Lockstep.state c.args.board.now)
    c.args.receiver.now.entries c.pop.new.self.entries c.args.fetched.now c.args.fetched.now c.args.turns
    c.requires.some
    (passes g.B.Lockstep.machine (g.B.Lockstep.state c.args.board.now) c.args.receiver.now.entries
    c.pop.new.self.entries c.args.fetched.now c.in-Some.front.now (sym c.in-Some.ensures.entry) (omega arith)
    (sym c.input_with.ensures ∙ c.in_default-input_with.is) c.requires.ready (ap (λ r. r.entries) c.pop.ensures.after))

-- ---- an input

pub returns-then-not-take-clause-answers : goal.returns-then-not-take-clause-answers
returns-then-not-take-clause-answers g c =
    let first = c.count-2.ensures in
    let at = c.count-now.ensures.value in
    let not_past = c.if-now-count.false in
    let also = c.count.ensures in
    let none_ahead = c.if-ahead-gt0.false in
    let refused = subst (λ taken. TakesIf g.B.Lockstep.machine (g.B.Lockstep.state c.args.board.now)
    c.in-Some-input_with.input taken (g.B.Lockstep.state c.take.new.board)) c.if-not-take.true c.take.ensures.answer in
    fits_nowhere g.B.Lockstep.machine (g.B.Lockstep.state c.args.board.now) (g.B.Lockstep.state c.take.new.board)
    c.args.receiver.now.entries c.args.fetched.now c.args.turns refused.0
    (not_accepted g.B.Lockstep.machine (g.B.Lockstep.state c.args.board.now) c.args.receiver.now.entries
    c.args.fetched.now c.in-Some.front.now c.in-Some-input_with.input c.requires.ready (sym c.in-Some.ensures.entry)
    (omega arith) (sym c.input_with.ensures ∙ c.in-Some-input_with.is) refused.1)

pub returns-clause-answers : goal.returns-clause-answers
returns-clause-answers g c =
    let first = c.count-2.ensures in
    let at = c.count-now.ensures.value in
    let not_past = c.if-now-count.false in
    let also = c.count.ensures in
    let none_ahead = c.if-ahead-gt0.false in
    one_move g.B.Lockstep.machine (g.B.Lockstep.state c.args.board.now) (g.B.Lockstep.state c.take.new.board)
    c.args.receiver.now.entries c.pop-2.new.self.entries c.args.fetched.now c.bytes_after.result c.args.turns
    c.requires.some
    (takes g.B.Lockstep.machine (g.B.Lockstep.state c.args.board.now) (g.B.Lockstep.state c.take.new.board)
    c.args.receiver.now.entries c.pop-2.new.self.entries c.args.fetched.now c.bytes_after.result c.in-Some.front.now
    c.in-Some-input_with.input (sym c.in-Some.ensures.entry) (omega arith)
    (sym c.input_with.ensures ∙ c.in-Some-input_with.is)
    (subst (λ taken. TakesIf g.B.Lockstep.machine (g.B.Lockstep.state c.args.board.now) c.in-Some-input_with.input taken
    (g.B.Lockstep.state c.take.new.board)) c.if-not-take.false c.take.ensures.answer)
    (ap (λ r. r.entries) c.pop-2.ensures.after) c.bytes_after.ensures)
