-- The next line is named if it is bad; a failure leaves those that were named.
use Rattle.std.proofs.Common.{◌≡◌, ◌<◌, ◌≤◌, [], length, refl, arith}
use Rattle.std.proofs.lemmas.Grind.{common_steps}
use Rattle.command_io.specs.Reports.{handed}
use Rattle.command_script.specs.Linting.{bad_from}
use Rattle.command_script.proofs.Linting.{ends_far, ends_none, fails_on, goes_on, on_none}
use Rattle.script_language.proofs.Breaking.{empty}
use Rattle.script_language.specs.Meaning.{said_by}
use Rattle.script_language.specs.Text.{lines_of}
use Rattle.command_script.proofs.lint.name_each.Goals as goal

pub lines-init : goal.lines-init
lines-init g c =
    let all = bad_from c.args.drives 1048576 1 (lines_of c.args.bytes.now) (said_by c.args.draft.now) in
    record {
      names = on_none all all (handed (g.W.Write.contents c.args.writer.now) c.args.report.now) refl;
      counted = omega arith;
      within = omega arith;
    }

pub lines-preserved : goal.lines-preserved
lines-preserved g c =
    let l = c.lines in
    let all = bad_from c.args.drives 1048576 1 (lines_of c.args.bytes.now) (said_by c.args.draft.now) in
    let old = handed (g.W.Write.contents c.args.writer.now) c.args.report.now in
    let mid = handed (g.W.Write.contents l.writer) l.report in
    let new = handed (g.W.Write.contents c.name_if_bad.new.writer) c.name_if_bad.new.report in
    let line = c.first_line.result.0.now in
    let after = c.first_line.result.1.now in
    let fits : length line ≤ l.room = omega arith in
    record {
      names = goes_on all c.args.drives l.room l.number l.rest.now (said_by l.draft) old mid new l.invariant.names line after
          c.first_line.ensures.line c.text_of.result.now c.text_of.ensures fits (said_by c.name_if_bad.new.draft)
          c.in_ok-name_if_bad.ensures.after c.in_ok-name_if_bad.ensures.named;
      counted = omega arith;
      within = omega (arith, c.first_line.ensures.some);
    }

pub returns-in_err-name_if_bad : goal.returns-in_err-name_if_bad
returns-in_err-name_if_bad g c =
    let l = c.lines in
    let all = bad_from c.args.drives 1048576 1 (lines_of c.args.bytes.now) (said_by c.args.draft.now) in
    let old = handed (g.W.Write.contents c.args.writer.now) c.args.report.now in
    let mid = handed (g.W.Write.contents l.writer) l.report in
    let new = handed (g.W.Write.contents c.name_if_bad.new.writer) c.name_if_bad.new.report in
    let line = c.first_line.result.0.now in
    let after = c.first_line.result.1.now in
    let fits : length line ≤ l.room = omega arith in
    let r = c.from_residual in
    fails_on all c.args.drives l.room l.number l.rest.now (said_by l.draft) old mid new l.invariant.names line after
    c.first_line.ensures.line c.text_of.result.now c.text_of.ensures fits r.result c.in_err-name_if_bad.field-0.0 r.ensures.1
    c.in_err-name_if_bad.ensures.named

pub returns-then-line-room : goal.returns-then-line-room
returns-then-line-room g c =
    let l = c.lines in
    let all = bad_from c.args.drives 1048576 1 (lines_of c.args.bytes.now) (said_by c.args.draft.now) in
    let old = handed (g.W.Write.contents c.args.writer.now) c.args.report.now in
    let mid = handed (g.W.Write.contents l.writer) l.report in
    let new = handed (g.W.Write.contents c.name.new.writer) c.name.new.report in
    let line = c.first_line.result.0.now in
    let after = c.first_line.result.1.now in
    let far : l.room < length line = omega arith in
    ends_far all c.args.drives l.room l.number l.rest.now (said_by l.draft) old mid new l.invariant.names line after
    c.first_line.ensures.line c.name.result far c.name.ensures

pub returns : goal.returns
returns g c =
    let l = c.lines in
    let all = bad_from c.args.drives 1048576 1 (lines_of c.args.bytes.now) (said_by c.args.draft.now) in
    let old = handed (g.W.Write.contents c.args.writer.now) c.args.report.now in
    let mid = handed (g.W.Write.contents l.writer) l.report in
    let none : lines_of l.rest.now ≡ [] = empty l.rest.now (grind (arith, common_steps)) in
    ends_none all c.args.drives l.room l.number l.rest.now (said_by l.draft) old mid mid l.invariant.names none
