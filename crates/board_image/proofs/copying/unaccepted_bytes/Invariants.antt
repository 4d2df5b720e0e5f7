use Rattle.std.proofs.Common.{◌≡◌, length}
use Rattle.board_image.proofs.Windows.{HasBytes, IsFree}
use Rattle.board_image.proofs.copying.unaccepted_bytes.Given as goal

abbrev pub invariant-loop-place : goal.invariant-loop-place
invariant-loop-place g l = record {
  whole : length l.bytes ≡ 16;
  has : HasBytes l.board.guest.operations l.port l.oldest l.place l.bytes;
  free : IsFree l.place l.bytes;
}
