use Rattle.guest_board.specs.MoveLaws.{guests_issue_and_complete}
use Rattle.guest_board.proofs.laws.boards_issue_and_complete.Goals as goal

pub returns : goal.returns
returns c = guests_issue_and_complete
