-- The lines of the bytes come after the head.
use Rattle.shell_picture.proofs.Sectors.{tells_read}
use Rattle.shell_picture.proofs.sector.print_read.Goals as goal

pub returns : goal.returns
returns c =
    tells_read c.args.address c.args.read.now c.args.printed.now c.line.new.self c.print_bytes.new.printed c.in_ok-line.ensures.shown
    c.in_ok-print_bytes.ensures
