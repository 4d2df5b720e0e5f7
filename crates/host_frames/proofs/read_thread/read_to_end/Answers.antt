-- It read up to an end, and then left the ring.
use Rattle.std.proofs.Common.{refl}
use Rattle.host_frames.proofs.read_thread.read_to_end.Goals as goal

pub returns : goal.returns
returns g c = record {
  new = c.read_frames-reader.result.0;
  reads = c.read_frames-reader.ensures;
  source_is = refl;
  finishes = c.finish-finished.ensures;
}
