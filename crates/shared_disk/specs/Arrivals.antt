-- The shared disk, in terms of all writes that arrive at it: for each sector the one of greatest number.
use Rattle.std.specs.Prelude.{◌≡◌, ◌<◌, ◌≤◌, nat_lt, if◌then◌else◌, List, [], ◌∷◌, ◌++◌, All, filter, map, Option, Some, None}
use Rattle.std.specs.Option.{IsSomeAnd, option_map, option_map_or}
use Rattle.disk_dcdd.specs.Address.{address_of, same_address}
use Rattle.disk_dcdd.specs.declared.address.SectorAddress.{SectorAddress}
use Rattle.disk_dcdd.specs.declared.sector.SectorWrite.{SectorWrite}
use Rattle.shared_disk.specs.Records.{record_at, with_record}
use Rattle.shared_disk.specs.declared.disk.SectorRead.{SectorRead}
use Rattle.shared_disk.specs.declared.store.Record.{Record}

-- the record that a write brings
abbrev pub record_of : SectorWrite → Record
record_of write = record { number = write.number; bytes = write.bytes }

-- the records that these writes bring to a sector, in order
abbrev pub written_at : SectorAddress → List SectorWrite → List Record
written_at address writes = map record_of (filter (λ write. same_address (address_of write) address) writes)

-- of these records this one has the greatest number, and is the first that has it
pub record IsGreatest (records : List Record) (greatest : Record) : Type 0 where
  pub before : List Record
  pub later : List Record
  pub place : records ≡ before ++ greatest ∷ later
  pub above : All (λ (other : Record). other.number < greatest.number) before
  pub at_least : All (λ (other : Record). other.number ≤ greatest.number) later

-- a sector keeps the greatest of its first record and those brought to it; if there is no such sector, there is no record
abbrev pub Keeps : Option Record → List Record → Option Record → Type 0
Keeps None writes kept = kept ≡ None
Keeps (Some first) writes kept = IsSomeAnd kept (IsGreatest (first ∷ writes))

-- the records of a disk that had these first, and at which these writes arrived
abbrev pub IsShared : List Record → List SectorWrite → List Record → Type 0
IsShared first arrivals records = (address : SectorAddress)
    → Keeps (record_at first address) (written_at address arrivals) (record_at records address)

-- whatever was there first and arrived before, the new records are those after all writes with this one after them
pub record GoesOn (old : List Record) (write : SectorWrite) (new : List Record) : Type 0 where
  pub so_far : (first : List Record) (arrivals : List SectorWrite) → IsShared first arrivals old
      → IsShared first (arrivals ++ write ∷ []) new

-- there is exactly one greatest record
pub record ChoosesOne (first : Record) (writes : List Record) : Type 0 where
  pub greatest : Record
  pub is : IsGreatest (first ∷ writes) greatest
  pub only : (other : Record) → IsGreatest (first ∷ writes) other → other ≡ greatest

-- the records after a write that met this record in its sector
abbrev pub after_meeting : List Record → SectorWrite → Record → List Record
after_meeting records write met =
    if nat_lt met.number write.number then with_record records (address_of write) (record_of write) else records

-- the records after a write
abbrev pub after_put : List Record → SectorWrite → List Record
after_put records write =
    option_map_or (after_meeting records write) (record_at records (address_of write)) records

-- where a sector was read
abbrev pub read_address : SectorRead → SectorAddress
read_address read = record { drive = read.drive; track = read.track; sector = read.sector }

-- what is read at a sector that has this record
abbrev pub read_of : SectorAddress → Record → SectorRead
read_of address found = record {
  number = found.number;
  drive = address.drive;
  track = address.track;
  sector = address.sector;
  bytes = found.bytes;
}

-- what is read at a sector, if there is such a sector
abbrev pub read_at : List Record → SectorAddress → Option SectorRead
read_at records address = option_map (read_of address) (record_at records address)
