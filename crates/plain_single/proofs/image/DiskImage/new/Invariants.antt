-- The writes that are left turn the disk into what all of them make of zeros.
use Rattle.std.proofs.Common.{◌≡◌, drop}
use Rattle.disk_dcdd.specs.declared.address.SectorAddress.{SectorAddress}
use Rattle.disk_dcdd.specs.Address.{bytes_with_all}
use Rattle.plain_single.specs.Image.{IsSector, sector_at, boot_sectors}
use Rattle.plain_single.proofs.image.DiskImage.new.Given as goal

abbrev pub invariant-loop-write : goal.invariant-loop-write
invariant-loop-write l =
    (a : SectorAddress) → IsSector a
    → bytes_with_all (drop l.write-index l.fn.writes) a (sector_at l.image.sectors.items a) ≡ boot_sectors l.fn.writes a
