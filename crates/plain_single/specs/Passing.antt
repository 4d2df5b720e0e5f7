-- The head of a drive and the sector under it as the single machine keeps them, in the words of the drive table.
use Rattle.std.specs.Prelude.{ℕ, Option, Some, None}
use Rattle.disk_dcdd.specs.declared.drive.Drive.{Drive}
use Rattle.disk_dcdd.specs.declared.sector.CurrentSector.{CurrentSector}
use Rattle.plain_single.specs.declared.drives.head.Head.{Head}
use Rattle.plain_single.specs.declared.drives.passing.Passing.{Passing}
use Rattle.plain_single.specs.declared.drives.passing.Stage.{Stage}
use Rattle.plain_single.specs.declared.drives.passing.Stage.TheVariants.{Reading, Filling}
use Rattle.plain_single.specs.declared.drives.passing.Selection.{Selection}
use Rattle.plain_single.specs.declared.drives.passing.Selection.TheVariants.{Nothing, Waiting, Over}

-- the drive of the table
abbrev pub drive_with : Head → Drive
drive_with h = record { track = h.track; loaded = h.loaded }

-- how many bytes of a sector are filled in
abbrev pub filled_in : Stage → Option ℕ
filled_in Reading = None
filled_in (Filling filled) = Some filled

-- the sector of the table
abbrev pub sector_of : Passing → CurrentSector
sector_of p = record { sector = p.number; bytes = p.bytes; read = p.read; shown = p.shown; filled = filled_in p.stage }

-- the selected drive
abbrev pub selected_of : Selection → Option ℕ
selected_of Nothing = None
selected_of (Waiting drive) = Some drive
selected_of (Over drive passing) = Some drive

-- the sector under its head
abbrev pub current_of : Selection → Option CurrentSector
current_of Nothing = None
current_of (Waiting drive) = None
current_of (Over drive passing) = Some (sector_of passing)
