-- What the fields of a `Controller` mean, and what holds of every controller.
use Rattle.std.specs.Prelude.{◌≡◌, ℕ, ◌<◌, ◌≤◌, false, IsTrue, IfSome, List, All, AllPairs, length, drop}
use Rattle.disk_dcdd.specs.declared.controller.TheConstants.{DRIVES, OUTSTANDING}
use Rattle.i8080_words.specs.declared.limits.TheConstants.{GREATEST_NUMBER}
use Rattle.disk_dcdd.specs.declared.drive.TheConstants.{TRACKS}
use Rattle.disk_dcdd.specs.declared.sector.TheConstants.{SECTORS, SECTOR_BYTES}
use Rattle.disk_dcdd.specs.declared.drive.Drive.{Drive}
use Rattle.disk_dcdd.specs.declared.sector.CurrentSector.{CurrentSector}
use Rattle.disk_dcdd.specs.declared.sector.Place.{Place}
use Rattle.disk_dcdd.specs.Sector.{is_at, IsUnfinished}
use Rattle.disk_dcdd.specs.Command.{drive_at_boot}
use Rattle.disk_dcdd.specs.Drive.{Drives}
use Rattle.disk_dcdd.specs.Completion.{is_head_loaded, is_sector_busy}
use Rattle.disk_dcdd.specs.declared.controller.Controller.TheInside.{Inside}

-- the controller with these fields
abbrev pub drives_of : Inside → Drives
drives_of a = record {
  attached = a.attached;
  selected = a.selected;
  drives = a.drives;
  interrupts = a.interrupts;
  current = a.current;
  outstanding = a.outstanding.items;
  issued = a.issued;
}

-- drives of which this many are attached; the others are as at boot
pub record AreDrives (attached : ℕ) (drives : List Drive) : Type 0 where
  pub count : length drives ≡ DRIVES
  pub tracks : All (λ drive. drive.track < TRACKS) drives
  pub unattached : All (λ drive. drive ≡ drive_at_boot) (drop attached drives)

-- an unfinished sector is under the loaded head of the selected drive, and no write of it is outstanding
pub record IsUnderHead (d : Drives) (s : CurrentSector) : Type 0 where
  pub head : IsTrue (is_head_loaded d)
  pub sector : s.sector < SECTORS
  pub bytes : length s.bytes ≡ SECTOR_BYTES
  pub unfinished : IsUnfinished s
  pub idle : is_sector_busy d s.sector ≡ false

-- a write is one of those issued, and goes to a sector of an attached drive
pub record IsIssued (attached issued : ℕ) (place : Place) : Type 0 where
  pub first : 1 ≤ place.number
  pub last : place.number ≤ issued
  pub drive : place.drive < attached
  pub track : place.track < TRACKS
  pub sector : place.sector < SECTORS

-- of two outstanding writes, the later has the greater number and goes to another sector
pub record Follows (earlier later : Place) : Type 0 where
  pub number : earlier.number < later.number
  pub elsewhere : is_at later.drive later.track later.sector earlier ≡ false

-- a write may be outstanding along with these earlier ones
pub record MayFollow (attached issued : ℕ) (earlier : List Place) (place : Place) : Type 0 where
  pub itself : IsIssued attached issued place
  pub behind : All (λ one. Follows one place) earlier

-- writes that may be outstanding together
pub record AreOutstanding (attached issued : ℕ) (places : List Place) : Type 0 where
  pub few : length places ≤ OUTSTANDING
  pub each : All (IsIssued attached issued) places
  pub order : AllPairs Follows places

-- what holds of every controller
pub record IsDrives (d : Drives) : Type 0 where
  pub some : 1 ≤ d.attached
  pub few : d.attached ≤ DRIVES
  pub selected : IfSome d.selected (λ drive. drive < d.attached)
  pub drives : AreDrives d.attached d.drives
  pub current : IfSome d.current (IsUnderHead d)
  pub outstanding : AreOutstanding d.attached d.issued d.outstanding
  pub issued : d.issued ≤ GREATEST_NUMBER

-- what holds of the fields of a controller
abbrev pub IsController : Inside → Type 0
IsController a = IsDrives (drives_of a)
