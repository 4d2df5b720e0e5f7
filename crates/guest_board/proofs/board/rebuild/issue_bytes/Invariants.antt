use Rattle.std.proofs.Common.{◌≡◌, ◌+◌, take}
use Rattle.guest_parts.specs.Parts as table
use Rattle.guest_board.proofs.board.rebuild.issue_bytes.Given as goal

abbrev pub invariant-loop-byte : goal.invariant-loop-byte
invariant-loop-byte l = record {
  next : l.number ≡ l.oldest + l.byte-index;
  issued : l.pending.operations
      ≡ table.with_each l.fn.pending.operations (table.bytes_from l.port l.oldest (take l.byte-index l.bytes));
}
