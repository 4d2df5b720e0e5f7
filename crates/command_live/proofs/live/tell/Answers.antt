-- If the line is not handed in, the failure says so.
use Rattle.std.proofs.Common.{map}
use Rattle.command_io.specs.Reports.{handed}
use Rattle.command_live.proofs.Living.{tells_residual}
use Rattle.command_live.proofs.live.tell.Goals as goal

pub returns-in_err-line : goal.returns-in_err-line
returns-in_err-line g c =
    let end = c.args.end.now in
    tells_residual c.args.as_text end.winner (map (λ v. v.items) end.accepted) end.disk c.args.saved.now
    c.from_residual.result c.line.result c.in_err-line.field-0.0
    (handed (g.O.Write.contents c.args.writer.now) c.args.report.now)
    (handed (g.O.Write.contents c.line.new.writer) c.line.new.self)
    c.from_residual.ensures.1 c.in_err-line.was c.line.ensures.no_line c.line.ensures.errors
