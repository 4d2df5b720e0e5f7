-- The copy has the same guest, and has not checked yet whether a step may be executed.
use Rattle.std.proofs.Common.{refl}
use Rattle.guest_board.proofs.Ready.{not_ready}
use Rattle.guest_board.proofs.board.Board.copy.Goals as goal

pub invariant_of-result : goal.invariant_of-result
invariant_of-result g c = record {
  board = rw (c.in-Ok.ensures.ok, c.copy-devices.ensures, c.in-Ok-copy.ensures.ok, c.in-Ok-from_slice.ensures.items, c.as_slice.ensures.value)
      c.self.invariant.board;
  forgotten = refl;
  ready = not_ready _ _ _;
}
