use Rattle.log_entry.proofs.EntryLaws.{entry_again, entry_takes, one_meaning}
use Rattle.log_entry.proofs.laws.entries_spell_one_way.Goals as goal

pub returns-clause-again : goal.returns-clause-again
returns-clause-again c = entry_again

pub returns-clause-one_spelling : goal.returns-clause-one_spelling
returns-clause-one_spelling c = entry_takes

pub returns-clause-one_meaning : goal.returns-clause-one_meaning
returns-clause-one_meaning c = one_meaning
