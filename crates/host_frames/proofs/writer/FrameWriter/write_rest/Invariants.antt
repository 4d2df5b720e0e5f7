-- What came out so far is written, and so many frames are left.
use Rattle.std.proofs.Common.{◌≡◌, ◌+◌, ◌++◌, length}
use Rattle.host_frames.specs.Writing.{Wrote}
use Rattle.rtrb.specs.Ring.{all_sent, known_items, received}
use Rattle.host_frames.proofs.writer.FrameWriter.write_rest.Given as goal

abbrev pub invariant-loop-done : goal.invariant-loop-done
invariant-loop-done g l = Wrote g.W.Write.contents l.fn.self l.self
    × (received l.self.frames ++ known_items l.self.frames ≡ all_sent l.fn.finished)
    × (length (known_items l.self.frames) + l._done ≡ l.count)
