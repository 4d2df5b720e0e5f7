-- The line is that of what is drawn and said of the event.
use Rattle.shell_picture.proofs.Rows.{prints_event}
use Rattle.shell_picture.proofs.picture.print_event.Goals as goal

pub returns : goal.returns
returns c =
    prints_event c.args.moments.now c.args.columns.now.places.items c.args.waits.now c.args.event c.stroke_of.result c.wait_at.result
    c.said_of-said.result c.args.printed.now c.line.new.self c.stroke_of.ensures c.said_of-said.ensures c.wait_at.ensures
    c.in_ok-line.ensures.shown
