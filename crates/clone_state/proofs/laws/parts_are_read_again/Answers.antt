use Rattle.clone_state.proofs.PartsRead.{parts_read}
use Rattle.clone_state.proofs.PartsWithin.{parts_within}
use Rattle.clone_state.proofs.laws.parts_are_read_again.Goals as goal

pub returns-clause-again : goal.returns-clause-again
returns-clause-again c = parts_read

pub returns-clause-within : goal.returns-clause-within
returns-clause-within c = parts_within
