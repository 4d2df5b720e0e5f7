-- A pair that is not booted prints nothing; one that is prints as its order says.
use Rattle.std.proofs.Common.{sym, subst}
use Rattle.std.proofs.KnownBytes.{Keeps-refl}
use Rattle.command_script.specs.Printing.{Prints}
use Rattle.command_io.specs.Reports.{handed}
use Rattle.command_script.proofs.Answering.{prints_nothing}
use Rattle.command_script.proofs.Starting.{prints_answers, prints_verdict, some_booted}
use Rattle.command_script.proofs.session.run.Goals as goal

pub returns-in_err-world : goal.returns-in_err-world
returns-in_err-world g c =
    let input = c.args.input.now in
    prints_nothing c.args.order input.script.setup input.sectors.items input.script.lines.items
    (some_booted input.script.setup input.sectors.items) c.from_residual.result _ _ c.from_residual.ensures.1 (Keeps-refl _)

pub returns-in-Script : goal.returns-in-Script
returns-in-Script g c =
    let input = c.args.input.now in
    let old = handed (g.O.Write.contents c.args.writer.now) c.args.report.now in
    let new = handed (g.O.Write.contents c.answer_each.new.writer) c.answer_each.new.report in
    subst (λ order. Prints order input.script.setup input.sectors.items input.script.lines.items c.answer_each.result old new)
    (sym c.in-Script.is)
    (prints_answers (λ d. d.board.guest) input.script.setup input.script.lines.items c.deref-in-Script.result.now
    c.deref-in-Script.ensures.value input.sectors.items c.deref.result.now c.deref.ensures.value c.in_ok-world.world
    c.in_ok-world.ensures.booted c.answer_each.result old new c.answer_each.ensures)

pub returns : goal.returns
returns g c =
    let input = c.args.input.now in
    let old = handed (g.O.Write.contents c.args.writer.now) c.args.report.now in
    let new = handed (g.O.Write.contents c.check.new.writer) c.check.new.report in
    subst (λ order. Prints order input.script.setup input.sectors.items input.script.lines.items c.check.result old new)
    (sym c.in-Check.is)
    (prints_verdict (λ d. d.board.guest) input.script.setup input.script.lines.items c.deref-in-Check.result.now
    c.deref-in-Check.ensures.value input.sectors.items c.deref.result.now c.deref.ensures.value c.in_ok-world.world
    c.in_ok-world.ensures.booted c.faithful_pairs_are_alike.ensures.same c.deref-in-Check-2.result.now
    c.deref-in-Check-2.ensures.value c.run_silently.new.world c.check.result old new c.run_silently.ensures
    c.check.ensures.verdict)
