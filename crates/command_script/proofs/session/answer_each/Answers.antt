-- A line's answer comes after the others; a failure leaves those that were handed in.
use Rattle.std.proofs.Common.{subst}
use Rattle.std.specs.Prelude.{take}
use Rattle.std.proofs.lemmas.List.{take_all}
use Rattle.ft_world.specs.Standing.{machine_of}
use Rattle.command_script.specs.Answering.{AnswersAll}
use Rattle.shared_disk.specs.Failing.{failures_of}
use Rattle.command_io.specs.Reports.{handed}
use Rattle.command_script.proofs.Answering.{answers_residual, fails_after}
use Rattle.command_script.proofs.Lines.{answers_all, answers_none, answers_on}
use Rattle.command_script.proofs.session.answer_each.Goals as goal

pub loop-line-init : goal.loop-line-init
loop-line-init g c =
    answers_none g.B.Lockstep.state g.B.Copies.copied g.B.Lockstep.machine c.args.world.now
    (handed (g.O.Write.contents c.args.writer.now) c.args.report.now)

pub loop-line-preserved : goal.loop-line-preserved
loop-line-preserved g c =
    answers_on g.B.Lockstep.state g.B.Copies.copied g.B.Lockstep.machine c.args.world.now c.loop-line.world
    c.answer.new.world c.args.lines.now c.loop-line.line-index _
    (handed (g.O.Write.contents c.args.writer.now) c.args.report.now)
    (handed (g.O.Write.contents c.loop-line.writer) c.loop-line.report)
    (handed (g.O.Write.contents c.before_turns.new.writer) c.before_turns.new.self)
    (handed (g.O.Write.contents c.answer.new.writer) c.answer.new.report)
    c.loop-line-test.true c.loop-line.invariant c.in_ok-before_turns.ensures.ok c.in_ok-answer.ensures.answered

pub returns-in_err-answer : goal.returns-in_err-answer
returns-in_err-answer g c = λ course shows.
    let r = c.from_residual-in_err-answer in
    let e = c.in_err-answer.field-0.0 in
    let old = handed (g.O.Write.contents c.args.writer.now) c.args.report.now in
    let mid = handed (g.O.Write.contents c.loop-line.writer) c.loop-line.report in
    let next = handed (g.O.Write.contents c.before_turns.new.writer) c.before_turns.new.self in
    let new = handed (g.O.Write.contents c.answer.new.writer) c.answer.new.report in
    let so_far = answers_all g.B.Lockstep.state g.B.Copies.copied g.B.Lockstep.machine c.args.world.now c.loop-line.world
    (take c.loop-line.line-index c.args.lines.now) old mid c.loop-line.invariant course shows in
    let M = machine_of g.B.Lockstep.machine course in
    let most = failures_of c.args.world.now.disk.left in
    answers_residual M course.copying course.world c.args.lines.now most r.result e old new r.ensures.1
    (fails_after M course.copying course.world c.args.lines.now most c.loop-line.line-index e old mid next new so_far
    c.in_ok-before_turns.ensures.ok c.in_err-answer.ensures.failed)

pub returns : goal.returns
returns g c = λ course shows.
    let old = handed (g.O.Write.contents c.args.writer.now) c.args.report.now in
    let new = handed (g.O.Write.contents c.loop-line.writer) c.loop-line.report in
    subst
    (λ l. AnswersAll (machine_of g.B.Lockstep.machine course) course.copying course.world l
    (failures_of c.args.world.now.disk.left) old new)
    (take_all c.loop-line.line-index c.args.lines.now c.loop-line-test.false)
    (answers_all g.B.Lockstep.state g.B.Copies.copied g.B.Lockstep.machine c.args.world.now c.loop-line.world
    (take c.loop-line.line-index c.args.lines.now) old new c.loop-line.invariant course shows)
