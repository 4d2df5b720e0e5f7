use Rattle.std.proofs.Common.{◌≡◌, ◌-◌}
use Rattle.arrayvec.specs.ArrayVec.{array_vec_len}
use Rattle.clone_state.proofs.Words.{read_each, write, writes_in}
use Rattle.clone_state.proofs.Collecting.{collected}
use Rattle.clone_state.proofs.reading.controller.each_write_at.Given as goal

abbrev pub invariant-loop-place : goal.invariant-loop-place
invariant-loop-place l = record {
  read : read_each write l.count l.fn.bytes ≡ collected write (writes_in l.writes.items) (l.count - l._place) l.rest;
  long : array_vec_len l.writes ≡ l._place;
}
