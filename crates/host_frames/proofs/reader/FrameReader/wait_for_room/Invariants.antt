-- It has only looked at the ring.
use Rattle.std.proofs.Common.{◌≡◌}
use Rattle.rtrb.specs.Ring.{ProducerLooked}
use Rattle.host_frames.proofs.reader.FrameReader.wait_for_room.Given as goal

abbrev pub invariant-loop : goal.invariant-loop
invariant-loop g l = (l.self.source ≡ l.fn.self.source) × (l.self.pending ≡ l.fn.self.pending)
    × (l.self.carried ≡ l.fn.self.carried)
    × ProducerLooked l.fn.self.bodies l.self.bodies
