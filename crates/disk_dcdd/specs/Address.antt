-- The sectors of all drives: by address, and by index in a table of them all.
use Rattle.std.specs.Prelude.{ℕ, ◌+◌, ◌*◌, Bool, ◌==◌, ◌&&◌, nat_lt, if◌then◌else◌, List, [], ◌∷◌, Option, Some, None}
use Rattle.disk_dcdd.specs.declared.address.TheConstants.{DRIVE_SECTORS}
use Rattle.disk_dcdd.specs.declared.address.SectorAddress.{SectorAddress}
use Rattle.disk_dcdd.specs.declared.drive.TheConstants.{TRACKS}
use Rattle.disk_dcdd.specs.declared.sector.TheConstants.{SECTORS}
use Rattle.disk_dcdd.specs.declared.sector.SectorWrite.{SectorWrite}

-- the sector that a write goes to
abbrev pub address_of : SectorWrite → SectorAddress
address_of w = record { drive = w.drive; track = w.track; sector = w.sector }

-- both are the same sector
abbrev pub same_address : SectorAddress → SectorAddress → Bool
same_address a b = a.drive == b.drive && a.track == b.track && a.sector == b.sector

-- what a sector has after a write, if it had these bytes before
abbrev pub bytes_with : SectorWrite → SectorAddress → List ℕ → List ℕ
bytes_with write a bytes = if same_address (address_of write) a then write.bytes else bytes

-- what a sector has after a list of writes, one after another
abbrev pub bytes_with_all : List SectorWrite → SectorAddress → List ℕ → List ℕ
bytes_with_all [] a bytes = bytes
bytes_with_all (write ∷ writes) a bytes = bytes_with_all writes a (bytes_with write a bytes)

-- a drive has a sector at this address
abbrev pub is_on_disk : SectorAddress → Bool
is_on_disk a = nat_lt a.track TRACKS && nat_lt a.sector SECTORS

-- one of this many drives has this sector
abbrev pub has_sector : ℕ → SectorAddress → Bool
has_sector drives a = is_on_disk a && nat_lt a.drive drives

-- the index in a table by drive, track and number
abbrev pub index_of : SectorAddress → Option ℕ
index_of a = if is_on_disk a then Some (a.drive * DRIVE_SECTORS + a.track * SECTORS + a.sector) else None
