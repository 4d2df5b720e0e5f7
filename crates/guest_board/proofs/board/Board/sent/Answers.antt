-- The byte that is due is outstanding, and is removed.
use Rattle.std.proofs.Common.{refl, sym, ap, ◌∙◌}
use Rattle.event_callbacks.specs.declared.operations.OpId.TheVariants as id
use Rattle.guest_parts.specs.Guest.{Guest}
use Rattle.guest_board.specs.Guest.{due_byte}
use Rattle.guest_board.specs.Fields.{guest_of}
use Rattle.guest_parts.specs.Board.{OnBoard}
use Rattle.guest_board.proofs.Inputs.{board_sent, is_due_byte, completed_there}
use Rattle.guest_board.proofs.Ready.{ready_completed}
use Rattle.guest_board.proofs.board.Board.sent.Goals as goal

pub invariant_of-self : goal.invariant_of-self
invariant_of-self g c =
    let i = c.self.inside in
    let old : Guest = guest_of i.cpu i.wiring i.pending i.completed.items i.count i.keys i.levels in
    let found = is_due_byte old c.args.port c.in-Some.oldest
    (ap (λ (b : OnBoard). due_byte b.guest c.args.port) c.self.view_is ∙ sym c.due_byte.ensures ∙ c.in-Some.is) in
    record {
      board = board_sent old i.wiring.memory.versions c.args.port c.complete.new.devices c.complete-operation.new.self.operations c.requires
          found.0 c.complete.ensures
          (completed_there old i.wiring.memory.versions i.pending c.complete-operation.new.self c.args.port c.in-Some.oldest refl c.self.invariant.board found.0 found.1
          c.complete-operation.ensures.after) c.self.invariant.board;
      forgotten = c.self.invariant.forgotten;
      ready = rw c.complete.ensures
          (ready_completed i.ready_until i.wiring.issued i.wiring.devices.disk.issued i.pending c.complete-operation.new.self
          (id.Byte c.args.port c.in-Some.oldest) c.complete-operation.ensures.after c.self.invariant.ready);
    }
