-- What came out, and then what the ring has, is all that went in.
use Rattle.std.proofs.Common.{◌++◌, ap, sym, ◌∙◌}
use Rattle.rtrb.specs.Ring.{known_items}
use Rattle.host_frames.proofs.read_thread.left_in.Goals as goal

pub returns : goal.returns
returns g = record {
  rest = known_items g.slots_after.new.self;
  counted = sym g.slots_after.ensures.value;
  all = ap (λ l. l ++ known_items g.slots_after.new.self) (sym g.slots_after.ensures.looked.1) ∙ g.slots_after.ensures.fifo;
}
