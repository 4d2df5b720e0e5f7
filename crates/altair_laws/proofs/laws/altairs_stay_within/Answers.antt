-- The law, from the fact that no two sectors have the same index.
use Rattle.altair_laws.proofs.Standing.{stands}
use Rattle.altair_laws.proofs.laws.altairs_stay_within.Goals as goal

pub returns : goal.returns
returns c = stands c.sectors_stand_apart.ensures
