-- The machine's own disk: a table of all sectors that drives can have.
use Rattle.std.specs.Prelude.{◌≡◌, ℕ, ◌<◌, true, List, [], replicate, slice_index_or}
use Rattle.std.specs.Option.{option_map_or}
use Rattle.disk_dcdd.specs.Address.{is_on_disk, index_of, bytes_with_all}
use Rattle.disk_dcdd.specs.declared.address.SectorAddress.{SectorAddress}
use Rattle.disk_dcdd.specs.declared.controller.TheConstants.{DRIVES}
use Rattle.disk_dcdd.specs.declared.sector.SectorWrite.{SectorWrite}
use Rattle.disk_dcdd.specs.declared.sector.TheConstants.{SECTOR_BYTES}

-- a sector of zeros
unfoldable pub zero_sector : List ℕ
zero_sector = replicate SECTOR_BYTES 0

-- a drive that can be attached has this sector
pub record IsSector (a : SectorAddress) : Type 0 where
  pub drive : a.drive < DRIVES
  pub place : is_on_disk a ≡ true

-- what a table of sectors has at an address; zeros if it has no place for it
abbrev pub sector_at : List (List ℕ) → SectorAddress → List ℕ
sector_at sectors a = option_map_or (λ index. slice_index_or sectors index zero_sector) (index_of a) zero_sector

-- the sectors at boot: the last one of the list that goes to a sector counts, and all others are zeros
abbrev pub boot_sectors : List SectorWrite → SectorAddress → List ℕ
boot_sectors writes a = bytes_with_all writes a zero_sector
