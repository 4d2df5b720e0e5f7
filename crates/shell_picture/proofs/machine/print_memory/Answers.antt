-- The line has the first of the bytes that are left.
use Rattle.std.proofs.Common.{◌<◌, length, rules}
use Rattle.shell_picture.specs.Machines.{memory_rows}
use Rattle.shell_picture.proofs.Looking.{memory_on}
use Rattle.shell_picture.proofs.machine.print_memory.Goals as goal

pub lines-preserved : goal.lines-preserved
lines-preserved c =
    let some : 0 < length c.lines.rest.now = search rules in
    memory_on (memory_rows c.args.from c.args.bytes.now) c.lines.address c.lines.rest.now c.before-bytes.result.now
    c.after-rest.result.now c.args.printed.now c.lines.printed c.line.new.self some c.before-bytes.ensures c.after-rest.ensures
    c.in_ok-line.ensures.shown c.lines.invariant
