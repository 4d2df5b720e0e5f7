use Rattle.board_image.proofs.KeepingUp as keeping_up
use Rattle.board_image.proofs.laws.drafts_keep_up.Goals as goal

pub returns-clause-begins : goal.returns-clause-begins
returns-clause-begins c = keeping_up.drafts_begin

pub returns-clause-stays : goal.returns-clause-stays
returns-clause-stays c = keeping_up.drafts_keep_up
