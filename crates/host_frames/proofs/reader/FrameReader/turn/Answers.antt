-- Frames were handed on, and then a piece was read.
use Rattle.std.proofs.Common.{subst}
use Rattle.host_frames.specs.StreamReading.{Reads}
use Rattle.host_frames.proofs.StreamReading.{and_then}
use Rattle.host_frames.proofs.reader.FrameReader.turn.Goals as goal

pub returns-in-None : goal.returns-in-None
returns-in-None g c =
    and_then g.S.Read.remaining c.read_piece.result c.args.self.now c.hand_on.new.self c.read_piece.new.self
    (subst (λ o. Reads g.S.Read.remaining o c.args.self.now c.hand_on.new.self) c.in-None.is c.hand_on.ensures.reads)
    c.read_piece.ensures
