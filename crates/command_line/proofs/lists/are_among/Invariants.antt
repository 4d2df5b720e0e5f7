-- The pieces so far are among the names.
use Rattle.std.proofs.Common.{◌≡◌, map, take, true}
use Rattle.command_line.specs.Lists.{are_among}
use Rattle.command_line.proofs.lists.are_among.Given as goal

abbrev pub invariant-loop-piece : goal.invariant-loop-piece
invariant-loop-piece l = are_among (map (λ name. name.now) l.names) (map (λ piece. piece.now) (take l.piece-index l.pieces)) ≡ true
