-- All that was handed in is written, and what is said of the bytes that were read is said of those of the reader.
use Rattle.std.proofs.Common.{string_bytes}
use Rattle.command_script.proofs.Linting.{reads_failed, settled_lints, writes_failed}
use Rattle.command_script.proofs.lint.run_lint.Goals as goal

pub returns : goal.returns
returns g c =
    let old = g.W.Write.contents c.args.writer.now in
    let mid = g.W.Write.contents c.lint-ended.new.writer in
    let new = g.W.Write.contents c.flush.new.writer in
    settled_lints old mid new (string_bytes c.new-report.result.lines) (string_bytes c.lint-ended.new.report.lines)
    c.new-report.ensures c.in_ok-flush.ensures.written (g.R.Read.remaining c.args.reader.now) c.in_ok-bytes.bytes.items
    c.deref.result.now c.in_ok-bytes.ensures.bytes c.deref.ensures.value c.lint-ended.result c.lint-ended.ensures

pub returns-in_err-bytes : goal.returns-in_err-bytes
returns-in_err-bytes g c =
    reads_failed (g.R.Read.remaining c.args.reader.now) c.from_residual.result c.in_err-bytes.field-0.0
    (g.W.Write.contents c.args.writer.now) c.from_residual.ensures.1

pub returns-in_err-flush : goal.returns-in_err-flush
returns-in_err-flush g c =
    let r = c.from_residual-in_err-flush in
    writes_failed (g.R.Read.remaining c.args.reader.now) r.result c.in_err-flush.field-0.0 (g.W.Write.contents c.args.writer.now)
    (g.W.Write.contents c.flush.new.writer) r.ensures.1 c.in_err-flush.ensures.errors
