use Rattle.guest_board.specs.MoveLaws.{guests_count}
use Rattle.guest_board.proofs.laws.boards_count.Goals as goal

pub returns : goal.returns
returns c = guests_count
