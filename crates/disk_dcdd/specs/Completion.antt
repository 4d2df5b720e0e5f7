-- How the drives answer: a sector comes under the head, a write is done.
use Rattle.std.specs.Prelude.{ℕ, Bool, false, not, ◌==◌, nat_lt, if◌then◌else◌, ◌&&◌, Option, Some, None, is_none, Result, Ok, Err, List, filter}
use Rattle.std.specs.List.{list_any}
use Rattle.std.specs.Option.{option_map_or}
use Rattle.i8080_words.specs.declared.refusal.Fault.{Fault}
use Rattle.i8080_words.specs.declared.refusal.Fault.TheVariants.{NotDue, SectorBusy}
use Rattle.disk_dcdd.specs.declared.sector.TheConstants.{SECTORS}
use Rattle.disk_dcdd.specs.Sector.{is_at, arrived}
use Rattle.disk_dcdd.specs.Drive.{Drives, drive_of}

-- the answer of a call that is refused for this reason, if any
abbrev pub answered : Option Fault → Result (Unit {0}) Fault
answered None = Ok tt
answered (Some fault) = Err fault

-- the controller after such a call: a refused one changes nothing
abbrev pub moved : Option Fault → Drives → Drives → Drives
moved None old new = new
moved (Some fault) old new = old

-- this drive is the selected one
abbrev pub is_selected : Drives → ℕ → Bool
is_selected d drive = option_map_or (λ selected. selected == drive) d.selected false

-- the head of the selected drive is loaded
abbrev pub is_head_loaded : Drives → Bool
is_head_loaded d = option_map_or (λ drive. (drive_of d drive).loaded) d.selected false

-- a write of this sector is outstanding on this drive, at its track
abbrev pub is_busy_on : Drives → ℕ → ℕ → Bool
is_busy_on d sector drive = list_any (is_at drive (drive_of d drive).track sector) d.outstanding

-- a write of this sector is outstanding on the selected drive, at its track
abbrev pub is_sector_busy : Drives → ℕ → Bool
is_sector_busy d sector = option_map_or (is_busy_on d sector) d.selected false

-- a sector is due: a drive is selected, its head is loaded, no sector is under it, and a track has this sector
abbrev pub is_sector_due : Drives → ℕ → Bool
is_sector_due d sector = is_head_loaded d && is_none d.current && nat_lt sector SECTORS

-- why a sector does not come: it is not due, or else a write of it is outstanding
abbrev pub sector_refusal : Drives → ℕ → Option Fault
sector_refusal d sector =
    if not (is_sector_due d sector) then Some NotDue else if is_sector_busy d sector then Some SectorBusy else None

-- a sector comes under the head
abbrev pub after_sector : Drives → ℕ → List ℕ → Drives
after_sector d sector bytes = record d { current = Some (arrived sector bytes) }

-- the write of this number is outstanding
abbrev pub is_outstanding : Drives → ℕ → Bool
is_outstanding d number = list_any (λ place. place.number == number) d.outstanding

-- why a write is not done: it is not outstanding
abbrev pub written_refusal : Drives → ℕ → Option Fault
written_refusal d number = if is_outstanding d number then None else Some NotDue

-- a write is done: it is no longer outstanding
abbrev pub after_written : Drives → ℕ → Drives
after_written d number = record d { outstanding = filter (λ place. not (place.number == number)) d.outstanding }
