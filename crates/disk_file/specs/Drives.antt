-- A disk of several drives, each in a file of its own.
use Rattle.std.specs.Prelude.{◌≡◌, ◌<◌, ℕ, List, [], ◌∷◌, ◌++◌, length, slice_get, Some, None}
use Rattle.disk_dcdd.specs.declared.address.SectorAddress.{SectorAddress}
use Rattle.disk_dcdd.specs.declared.drive.TheConstants.{TRACKS}
use Rattle.disk_dcdd.specs.declared.sector.SectorWrite.{SectorWrite}
use Rattle.disk_dcdd.specs.declared.sector.TheConstants.{SECTORS}
use Rattle.disk_file.specs.Device.{LeavesOnly}
use Rattle.disk_file.specs.Kept.{StandsFor, bytes_of, pending_in}
use Rattle.disk_file.specs.declared.kept.FileRecords.{FileRecords}
use Rattle.shared_disk.specs.Records.{HasWholeSectors, IsAtBoot, IsUnwritten, record_at}
use Rattle.shared_disk.specs.declared.store.Record.{Record}

-- the records of all drives, one drive after another
abbrev pub all_records : {D : Type 0} → List (FileRecords D) → List Record
all_records [] = []
all_records (drive ∷ drives) = drive.records.items ++ all_records drives

-- what a drive keeps: all its sectors, each whole
pub record IsDrive {D : Type 0} (drive : FileRecords D) : Type 0 where
  pub size : length drive.records.items ≡ 2464
  pub whole : HasWholeSectors drive.records.items

-- a sector, by its address in the file of its drive
abbrev pub in_drive : SectorAddress → SectorAddress
in_drive address = record { drive = 0; track = address.track; sector = address.sector }

-- no other drive than that of this address changes
abbrev pub OnlyDrive : {D : Type 0} → SectorAddress → List (FileRecords D) → List (FileRecords D) → Type 0
OnlyDrive address old new = (i : ℕ) → (i ≡ address.drive → ⊥) → slice_get new i ≡ slice_get old i

-- while a sector of these bytes is written, a crash at any moment leaves its drive's file standing for the records from
-- before, with the new one or without; or with those of a write in which the device had failed before, or without
abbrev pub WritesDrive : {D : Type 0} → (D → ℕ) → (D → ℕ → List ℕ → Type 0) → SectorAddress → List ℕ
    → List (FileRecords D) → List (FileRecords D) → Type 0
WritesDrive {D} moment left_since address bytes olds news =
    (old new : FileRecords D) → slice_get olds address.drive ≡ Some old → slice_get news address.drive ≡ Some new
    → LeavesOnly moment left_since old.device new.device
    (StandsFor (length old.records.items) (bytes_of old.records.items) (pending_in old.pending (in_drive address) bytes))

-- what was written is on the disk
abbrev pub IsOnDisk : {D : Type 0} → SectorAddress → List (FileRecords D) → Type 0
IsOnDisk {D} address drives = (drive : FileRecords D) → slice_get drives address.drive ≡ Some drive → drive.pending ≡ None

-- ---- the same records as another disk

-- two disks have the same in a sector
abbrev pub Agree : SectorAddress → List Record → List Record → Type 0
Agree address records others = record_at records address ≡ record_at others address

-- and in each sector of a track, and of a drive
abbrev pub AgreeOnTrack : ℕ → ℕ → List Record → List Record → Type 0
AgreeOnTrack drive track records others = (sector : ℕ) → sector < SECTORS
    → Agree (record { drive = drive; track = track; sector = sector }) records others

abbrev pub AgreeOnDrive : ℕ → List Record → List Record → Type 0
AgreeOnDrive drive records others = (track : ℕ) → track < TRACKS → AgreeOnTrack drive track records others

-- what a disk of so many drives has at boot; no write has arrived
pub record IsBooted (records : List Record) (drives : ℕ) (sectors : List SectorWrite) : Type 0 where
  pub boots : IsAtBoot records drives sectors
  pub unwritten : IsUnwritten records
