-- The law, from the fact that no two sectors have the same index.
use Rattle.altair_laws.proofs.Lawful.{lawful}
use Rattle.altair_laws.proofs.laws.altairs_are_lawful.Goals as goal

pub returns : goal.returns
returns c = lawful c.sectors_stand_apart.ensures
