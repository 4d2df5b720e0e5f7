-- The image of a disk: 77 tracks of 32 sectors of 137 bytes, which are 337,568 bytes.
use Rattle.std.specs.Prelude.{◌≡◌, ℕ, ◌*◌, ◌/◌, ◌%◌, Option, List, length, take, drop, map, slice_index}
use Rattle.std.specs.List.{range_with_len}
use Rattle.std.specs.Io.KnownBytes.{Consumes}
use Rattle.disk_dcdd.specs.declared.sector.SectorWrite.{SectorWrite}

-- The sector at this place of images that come one after another, each of one of these drives: sector s of track t is at
-- place 32 t + s of its image. It is a write of number 0, which comes before every write of a guest.
abbrev pub sector_at : List ℕ → List ℕ → ℕ → SectorWrite
sector_at drives images place = record {
  number = 0;
  drive = slice_index drives (place / 2464);
  track = place / 32 % 77;
  sector = place % 32;
  bytes = take 137 (drop (place * 137) images);
}

-- the sectors at all places of the images of these drives
abbrev pub sectors_of : List ℕ → List ℕ → List SectorWrite
sectors_of drives images = map (sector_at drives images) (range_with_len 0 (2464 * length drives))

-- the images of these drives were taken from the front of a reader, and have these sectors
pub record ComeFirst (drives : List ℕ) (sectors : List SectorWrite) (old new : Option (List ℕ)) : Type 0 where
  pub images : List ℕ
  pub whole : length images ≡ 337568 * length drives
  pub taken : Consumes old new images
  pub are : sectors ≡ sectors_of drives images
