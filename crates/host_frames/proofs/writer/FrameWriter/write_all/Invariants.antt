-- What came so far is written.
use Rattle.host_frames.specs.Writing.{Wrote}
use Rattle.host_frames.proofs.writer.FrameWriter.write_all.Given as goal

abbrev pub invariant-loop : goal.invariant-loop
invariant-loop g l = Wrote g.W.Write.contents l.fn.self l.self
