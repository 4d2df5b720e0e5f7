-- The entries up to the new acknowledged number are those up to the old one and the part that is covered now.
use Rattle.output_rule.proofs.Told.{tells_acknowledged}
use Rattle.output_rule.proofs.laws.told_keys_are_acknowledged.Goals as goal

pub returns-clause-acknowledged : goal.returns-clause-acknowledged
returns-clause-acknowledged c = tells_acknowledged
