-- What came out, and then what is left, is all that was read.
use Rattle.host_frames.proofs.Threads.{was_read}
use Rattle.host_frames.proofs.read_thread.end_reading.Goals as goal

pub returns-in-Ok : goal.returns-in-Ok
returns-in-Ok g c =
    was_read g.S.Read.remaining c.args.reading.promise.reader.value c.join-read.result c.args.bodies c.in-Ok.finished
    c.left_in-count.result c.requires c.join-read.ensures c.in-Ok.is c.left_in-count.ensures
