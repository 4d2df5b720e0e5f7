-- One frame, and then further ones; a flush changes nothing.
use Rattle.std.proofs.Common.{refl}
use Rattle.host_frames.specs.declared.writer.FrameWriter.{FrameWriter}
use Rattle.host_frames.proofs.Writing.{and_then, flushed}
use Rattle.host_frames.proofs.writer.FrameWriter.write_some.Goals as goal

pub returns-clause-wrote : goal.returns-clause-wrote
returns-clause-wrote g c =
    let b : FrameWriter g.row.W.Denot = record c.write_more.new.self { sink = c.flush.new.sink } in
    flushed g.W.Write.contents c.args.self.now c.write_more.new.self b
    (and_then g.W.Write.contents c.args.self.now c.write_next.new.self c.write_more.new.self c.in_ok-write_next.ensures.wrote
    c.in_ok-write_more.ensures) c.flush.ensures refl refl
