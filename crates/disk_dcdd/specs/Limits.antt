-- The constants that the definitions cite by their names in the code.
use Rattle.std.specs.Prelude.{◌≡◌, ◌*◌}
use Rattle.disk_dcdd.specs.declared.address.TheConstants.{DRIVE_SECTORS}
use Rattle.disk_dcdd.specs.declared.controller.TheConstants.{DRIVES, OUTSTANDING}
use Rattle.disk_dcdd.specs.declared.drive.TheConstants.{TRACKS}
use Rattle.disk_dcdd.specs.declared.sector.TheConstants.{SECTORS, SECTOR_BYTES}

-- a disk has 77 tracks of 32 sectors of 137 bytes; a controller has at most four drives and eight outstanding writes
pub record Limits : Type 0 where
  pub drives : DRIVES ≡ 4
  pub tracks : TRACKS ≡ 77
  pub sectors : SECTORS ≡ 32
  pub sector_bytes : SECTOR_BYTES ≡ 137
  pub drive_sectors : DRIVE_SECTORS ≡ 77 * 32
  pub outstanding : OUTSTANDING ≡ 8
