use Rattle.std.proofs.Common.{◌≡◌, take}
use Rattle.guest_parts.specs.Parts as table
use Rattle.guest_board.proofs.board.rebuild.issue_writes.Given as goal

abbrev pub invariant-loop-write : goal.invariant-loop-write
invariant-loop-write l =
    l.pending.operations ≡ table.with_each l.fn.pending.operations (table.writes_of (take l.write-index l.writes))
