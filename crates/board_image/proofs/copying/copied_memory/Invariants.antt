use Rattle.std.proofs.Common.{◌≡◌, ◌*◌, take}
use Rattle.board_image.proofs.copying.copied_memory.Given as goal

abbrev pub invariant-loop-page : goal.invariant-loop-page
invariant-loop-page g l = l.memory.items ≡ take (l.page * 256) l.board.guest.memory
