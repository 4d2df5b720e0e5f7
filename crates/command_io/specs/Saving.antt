-- The images of disks: 77 tracks of 32 sectors of 137 bytes each.
use Rattle.std.specs.Prelude.{◌≡◌, ◌⊎◌, ℕ, ◌*◌, ◌/◌, ◌%◌, ◌<◌, Bool, List, length, nat_lt}
use Rattle.std.specs.List.{flat_map, list_all, range_with_len}
use Rattle.command_io.specs.declared.failure.Failure.{Failure}
use Rattle.command_io.specs.declared.failure.Failure.TheVariants.{InputOrOutput, OutOfMemory}
use Rattle.disk_dcdd.specs.declared.address.SectorAddress.{SectorAddress}
use Rattle.shared_disk.specs.Records.{IsThere, bytes_in}
use Rattle.shared_disk.specs.declared.store.Record.{Record}

-- the sector at this place of a drive's image: sector s of track t is at place 32 t + s
abbrev pub address_at : ℕ → ℕ → SectorAddress
address_at drive place = record { drive = drive; track = place / 32; sector = place % 32 }

-- the bytes of the first sectors of a drive, in the order of their places
unfoldable pub image_to : List Record → ℕ → ℕ → List ℕ
image_to records drive count = flat_map (λ place. bytes_in records (address_at drive place)) (range_with_len 0 count)

-- those of all
abbrev pub image_of : List Record → ℕ → List ℕ
image_of records drive = image_to records drive 2464

-- those of these drives, one image after another
abbrev pub images_of : List Record → List ℕ → List ℕ
images_of records drives = flat_map (image_of records) drives

-- each of these images has all its bytes: 137 for each of 2,464 sectors
abbrev pub AreWhole : List ℕ → List ℕ → Type 0
AreWhole images drives = length images ≡ 337568 * length drives

-- a disk has the first sectors of a drive, by their places
abbrev pub HasPlaces : List Record → ℕ → ℕ → Type 0
HasPlaces records drive count = (place : ℕ) → place < count → IsThere records (address_at drive place)

-- it has the whole drive
abbrev pub HasDrive : List Record → ℕ → Type 0
HasDrive records drive = HasPlaces records drive 2464

-- each of these drives is one of so many
abbrev pub are_attached : ℕ → List ℕ → Bool
are_attached attached drives = list_all (λ drive. nat_lt drive attached) drives

-- why disks are not saved
abbrev pub IsUnsaved : Failure → Type 0
IsUnsaved failure = (failure ≡ OutOfMemory) ⊎ (failure ≡ InputOrOutput)
