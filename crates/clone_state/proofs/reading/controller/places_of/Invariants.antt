use Rattle.std.proofs.Common.{◌≡◌, map, take}
use Rattle.arrayvec.specs.ArrayVec.{array_vec_len}
use Rattle.clone_state.proofs.Words.{place_of, writes_in}
use Rattle.clone_state.proofs.reading.controller.places_of.Given as goal

abbrev pub invariant-loop-outstanding : goal.invariant-loop-outstanding
invariant-loop-outstanding l = record {
  places : l.places.items ≡ map place_of (writes_in (take l.outstanding-index l.writes));
  long : array_vec_len l.places ≡ l.outstanding-index;
}
