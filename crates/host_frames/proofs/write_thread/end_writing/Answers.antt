-- What its thread took out was written, and then what was left.
use Rattle.std.proofs.Common.{subst}
use Rattle.std.proofs.lemmas.Result.{on_ok_weaker}
use Rattle.std.specs.Prelude.{IfOk}
use Rattle.host_frames.proofs.Threads.{was_written, when_ok}
use Rattle.host_frames.proofs.write_thread.end_writing.Goals as goal
use Rattle.rtrb.specs.Ring.{Finishes}

pub returns-in-Ok : goal.returns-in-Ok
returns-in-Ok g c =
    on_ok_weaker c.write_left.result.end
    (was_written g.W.Write.contents c.args.writing.promise.writer.value c.join-writer.result.0 c.args.frames c.in-Ok.left
    c.write_left.result.sink c.requires (when_ok c.join-writer.result.1 c.in-Ok.ensures.written c.join-writer.ensures)
    (subst (λ r. IfOk r (Finishes c.args.frames)) c.in-Ok.ensures.left c.finish-finished.ensures)) c.write_left.ensures
