-- A text without a bad line is told to be well formed.
use Rattle.std.proofs.Common.{rules}
use Rattle.command_io.specs.Reports.{handed}
use Rattle.command_script.proofs.Linting.{none_bad, told}
use Rattle.command_script.proofs.lint.lint.Goals as goal

pub returns-in_default : goal.returns-in_default
returns-in_default g c =
    told c.args.bytes.now c.line_count-lines.result c.line.result (handed (g.W.Write.contents c.args.writer.now) c.args.report.now)
    (handed (g.W.Write.contents c.line.new.writer) c.line.new.self)
    (none_bad c.args.bytes.now c.in_ok-first.field-0 (search rules) c.in_ok-first.ensures.bad) c.line_count-lines.ensures
    c.line.ensures.ok c.line.ensures.no_line c.line.ensures.errors
