-- One line more.
use Rattle.command_io.proofs.Sectors.{line_more}
use Rattle.command_io.proofs.input.put_each.Goals as goal

pub loop-line-preserved : goal.loop-line-preserved
loop-line-preserved c =
    line_more c.args.sectors.now.items c.loop-line.sectors.items c.push.new.self.items c.args.lines.now c.loop-line.line-index _
    c.line-item.result c.write.result c.in_ok-push.ensures.items c.write.ensures c.line-item.is c.loop-line-test.true
    c.loop-line.invariant
