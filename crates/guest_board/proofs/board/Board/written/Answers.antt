-- The write that is done was outstanding, and is removed.
use Rattle.event_callbacks.specs.declared.operations.OpId.TheVariants as id
use Rattle.guest_parts.specs.Guest.{Guest}
use Rattle.guest_board.specs.Fields.{guest_of}
use Rattle.guest_board.proofs.Inputs.{board_written, found_there, gone_there}
use Rattle.guest_board.proofs.Ready.{ready_completed}
use Rattle.guest_board.proofs.board.Board.written.Goals as goal

pub invariant_of-self-2 : goal.invariant_of-self-2
invariant_of-self-2 g c =
    let i = c.self.inside in
    let old : Guest = guest_of i.cpu i.wiring i.pending i.completed.items i.count i.keys i.levels in
    let there = found_there i.pending.operations c.args.number c.in_ok-operation.operation c.in_ok-operation.ensures.answer in
    record {
      board = board_written old i.wiring.memory.versions c.args.number c.in_ok-operation.operation c.complete-2.new.devices
          c.complete.new.self.operations c.complete_write.new.completed.items there c.in_ok-operation.ensures.name
          c.complete-2.ensures (gone_there i.pending c.complete.new.self c.args.number c.in_ok-operation.operation there c.in_ok-operation.ensures.after)
          c.complete_write.ensures c.self.invariant.board;
      forgotten = c.self.invariant.forgotten;
      ready = rw c.complete-2.ensures
          (ready_completed i.ready_until i.wiring.issued i.wiring.devices.disk.issued i.pending c.complete.new.self
          (id.Write c.args.number) c.in_ok-operation.ensures.after c.self.invariant.ready);
    }
