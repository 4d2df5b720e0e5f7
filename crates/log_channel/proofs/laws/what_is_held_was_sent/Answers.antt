use Rattle.log_channel.proofs.SentEntries.{keeps_holding}
use Rattle.log_channel.proofs.laws.what_is_held_was_sent.Goals as goal

pub returns : goal.returns
returns c = keeps_holding
