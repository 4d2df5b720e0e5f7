-- The board's guest is that of the parts: the outstanding operations and memory are made anew, everything else is
-- moved.
use Rattle.std.proofs.Common.{refl, sym, ap, ◌∙◌}
use Rattle.guest_memory.specs.Pages.{Pages}
use Rattle.guest_parts.proofs.Standing.{board-from_parts}
use Rattle.guest_board.proofs.Ready.{not_ready}
use Rattle.guest_board.proofs.board.Board.rebuild.Goals as goal

pub invariant_of-result : goal.invariant_of-result
invariant_of-result g c = record {
  board = board-from_parts c.args.parts c.resume.result c.in-Ok.memory.bytes c.in-Ok-outstanding.pending.operations
      c.in-Ok.memory.versions c.resume.ensures (ap (λ (m : Pages). m.bytes) c.in-Ok.ensures.ok ∙ c.deref.ensures.value)
      c.in-Ok-outstanding.ensures.ok (ap (λ (m : Pages). m.versions) c.in-Ok.ensures.ok)
      (c.stand_as_boards_do.ensures.0 (sym c.stand.ensures ∙ c.if-not-stand.false)).0;
  forgotten = refl;
  ready = not_ready _ _ _;
}
