use Rattle.log_entry.proofs.TraceEntries.{keeps_inputs}
use Rattle.log_entry.proofs.laws.entries_keep_the_inputs.Goals as goal

pub returns : goal.returns
returns c = keeps_inputs
