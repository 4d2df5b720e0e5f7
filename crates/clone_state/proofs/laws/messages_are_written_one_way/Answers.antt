use Rattle.clone_state.proofs.PartsRead.{message_again}
use Rattle.clone_state.proofs.Messages.{message_written}
use Rattle.clone_state.proofs.laws.messages_are_written_one_way.Goals as goal

pub returns-clause-again : goal.returns-clause-again
returns-clause-again c = message_again

pub returns-clause-one_way : goal.returns-clause-one_way
returns-clause-one_way c = message_written
