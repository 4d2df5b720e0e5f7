-- The law, from the fact that no two sectors have the same index.
use Rattle.altair_laws.proofs.OnDisk.{stays_on_disk}
use Rattle.altair_laws.proofs.laws.altairs_stay_on_their_disks.Goals as goal

pub returns : goal.returns
returns c = stays_on_disk c.sectors_stand_apart.ensures
