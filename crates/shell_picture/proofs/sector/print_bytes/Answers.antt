-- One line more is printed; in the end all are.
use Rattle.std.proofs.Common.{◌≤◌, length, arith}
use Rattle.shell_picture.proofs.Sectors.{tells_line_more, tells_lines}
use Rattle.shell_picture.proofs.sector.print_bytes.Goals as goal

pub loop-place-preserved : goal.loop-place-preserved
loop-place-preserved c =
    tells_line_more c.args.bytes.now c.places-place-items.result.now c.loop-place.place-index _ c.after.result.now c.before-bytes.result.now
    c.args.printed.now c.loop-place.printed c.line.new.self c.places-place-items.ensures c.loop-place-test.true
    c.after.ensures c.before-bytes.ensures c.loop-place.invariant c.in_ok-line.ensures.shown

pub returns : goal.returns
returns c =
    let all = c.places-place-items.result.now in
    let past : length all ≤ c.loop-place.place-index = omega arith in
    tells_lines c.args.bytes.now all c.loop-place.place-index c.args.printed.now c.loop-place.printed c.places-place-items.ensures past
    c.loop-place.invariant
