-- A write that is not done yet, in the words of the drive table.
use Rattle.disk_dcdd.specs.declared.sector.Place.{Place}
use Rattle.plain_single.specs.declared.drives.Awaited.{Awaited}

-- where a write goes
abbrev pub place_with : Awaited → Place
place_with w = record { number = w.number; drive = w.drive; track = w.track; sector = w.sector }
