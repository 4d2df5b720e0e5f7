-- Of an event that is no exchange it is said what came and what left, or what happens.
use Rattle.std.proofs.Common.{rules}
use Rattle.shell_picture.proofs.Saying.{says_other}
use Rattle.shell_picture.proofs.words.said_here.Goals as goal

pub returns-in-None : goal.returns-in-None
returns-in-None c =
    says_other c.args.moments.now c.args.waits.now c.args.event c.args.here c.flight_to.result c.departure_from.result
    c.waits_more.result c.said_by.result (search rules) c.flight_to.ensures c.departure_from.ensures c.waits_more.ensures
    c.said_by.ensures
