-- The records of a disk, one for each sector, by the sector's index in a table of them all.
use Rattle.std.specs.Prelude.{◌≡◌, ℕ, IsTrue, ◌*◌, if◌then◌else◌, List, [], All, length, replicate, slice_get, slice_set, Option, Some, None, is_some, IsSome, Result, Ok, Err}
use Rattle.std.specs.Option.{option_and_then, option_map_or}
use Rattle.disk_dcdd.specs.Address.{address_of, has_sector, index_of, bytes_with_all}
use Rattle.disk_dcdd.specs.declared.address.SectorAddress.{SectorAddress}
use Rattle.disk_dcdd.specs.declared.address.TheConstants.{DRIVE_SECTORS}
use Rattle.disk_dcdd.specs.declared.sector.SectorWrite.{SectorWrite}
use Rattle.disk_dcdd.specs.declared.sector.TheConstants.{SECTOR_BYTES}
use Rattle.i8080_words.specs.declared.refusal.Fault.{Fault}
use Rattle.i8080_words.specs.declared.refusal.Fault.TheVariants.{DeviceFault, Unknown}
use Rattle.shared_disk.specs.declared.store.Record.{Record}

-- the record of a sector, if there is such a sector
abbrev pub record_at : List Record → SectorAddress → Option Record
record_at records address = option_and_then (slice_get records) (index_of address)

-- there is such a sector
abbrev pub IsThere : List Record → SectorAddress → Type 0
IsThere records address = IsSome (record_at records address)

-- this is the record of a sector
abbrev pub IsAt : List Record → SectorAddress → Record → Type 0
IsAt records address found = record_at records address ≡ Some found

-- the bytes of each sector of a disk
abbrev pub bytes_in : List Record → SectorAddress → List ℕ
bytes_in records address = option_map_or (λ (r : Record). r.bytes) (record_at records address) []

-- the records with another one in a sector; a sector that does not exist takes none
abbrev pub with_record : List Record → SectorAddress → Record → List Record
with_record records address content =
    option_map_or (λ place. slice_set records place content) (index_of address) records

-- why an access of a sector is refused: there is no such sector, or else the device failed
abbrev pub refusal_at : List Record → SectorAddress → Fault
refusal_at records address = if is_some (record_at records address) then DeviceFault else Unknown

-- the failures of the device that an answer reports
abbrev pub faults_in : {T : Type 0} → Result T Fault → ℕ
faults_in (Err DeviceFault) = 1
faults_in _ = 0

-- zeros under number 0
abbrev pub blank_record : Record
blank_record = record { number = 0; bytes = replicate SECTOR_BYTES 0 }

-- this many drives on which nothing is written
unfoldable pub unwritten : ℕ → List Record
unwritten drives = replicate (drives * DRIVE_SECTORS) blank_record

-- bytes that no node wrote
abbrev pub boot_record : List ℕ → Record
boot_record bytes = record { number = 0; bytes = bytes }

-- a device that never fails takes a record wherever there is a sector
abbrev pub put_answer : List Record → SectorAddress → Result (Unit {0}) Fault
put_answer records address = if is_some (record_at records address) then Ok tt else Err Unknown

-- a disk has each sector of this many drives, and no write has arrived
abbrev pub HasDrives : List Record → ℕ → Type 0
HasDrives records drives = (address : SectorAddress) → IsTrue (has_sector drives address) → IsThere records address

abbrev pub IsUnwritten : List Record → Type 0
IsUnwritten records = (address : SectorAddress) (r : Record) → IsAt records address r → r.number ≡ 0

-- each sector of a disk has all its bytes
abbrev pub HasWholeSectors : List Record → Type 0
HasWholeSectors records =
    (address : SectorAddress) (r : Record) → IsAt records address r → length r.bytes ≡ SECTOR_BYTES

-- each sector of this many drives has the bytes of the last of these that goes there, or zeros if none does; no write has
-- arrived at it, and no other sector exists
abbrev pub IsAtBoot : List Record → ℕ → List SectorWrite → Type 0
IsAtBoot records drives sectors = (address : SectorAddress) → record_at records address
    ≡ (if has_sector drives address then Some (boot_record (bytes_with_all sectors address (replicate SECTOR_BYTES 0)))
    else None)

-- each of these goes to a sector of this many drives
abbrev pub AreOnDrives : ℕ → List SectorWrite → Type 0
AreOnDrives drives = All (λ (sector : SectorWrite). IsTrue (has_sector drives (address_of sector)))
