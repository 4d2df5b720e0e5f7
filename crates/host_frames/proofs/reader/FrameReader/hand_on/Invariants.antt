-- What was taken so far is handed on or pending.
use Rattle.std.proofs.Common.{None}
use Rattle.host_frames.specs.StreamReading.{Reads}
use Rattle.host_frames.proofs.reader.FrameReader.hand_on.Given as goal

abbrev pub invariant-loop : goal.invariant-loop
invariant-loop g l = Reads g.S.Read.remaining None l.fn.self l.self
