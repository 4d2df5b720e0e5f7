use Rattle.log_entry.proofs.TraceEntries.{stand_in_order}
use Rattle.log_entry.proofs.laws.entries_stand_in_order.Goals as goal

pub returns : goal.returns
returns c = stand_in_order
