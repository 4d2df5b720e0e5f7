-- The laws, from those of the Altair.
use Rattle.altair_pair.proofs.Alike.{faithful_is_alike}
use Rattle.altair_pair.proofs.Verdicts.{shown_is_same}
use Rattle.altair_pair.proofs.laws.faithful_pairs_are_alike.Goals as goal

pub returns-clause-alike : goal.returns-clause-alike
returns-clause-alike g c = faithful_is_alike c.sectors_stand_apart.ensures c.altairs_are_lawful.ensures

pub returns-clause-same : goal.returns-clause-same
returns-clause-same g c =
    shown_is_same (faithful_is_alike c.sectors_stand_apart.ensures c.altairs_are_lawful.ensures)
    c.altairs_stay_on_their_disks.ensures
