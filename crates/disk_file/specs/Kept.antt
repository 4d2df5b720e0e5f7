-- What a store keeps: its records stand in its file, and in whatever a crash may leave of it.
use Rattle.std.specs.Prelude.{◌≡◌, ℕ, ◌+◌, ◌*◌, ◌≤◌, List, length, Option, Some, None, slice_get}
use Rattle.std.specs.List.{flat_map}
use Rattle.std.specs.Option.{option_map_or}
use Rattle.disk_dcdd.specs.Address.{index_of}
use Rattle.disk_dcdd.specs.declared.address.SectorAddress.{SectorAddress}
use Rattle.disk_file.specs.Device.{Only}
use Rattle.disk_file.specs.Sectors.{contents, Resting, IsBeforeOrAfter}
use Rattle.disk_file.specs.declared.kept.FileRecords.{FileRecords}
use Rattle.disk_file.specs.declared.kept.PendingWrite.{PendingWrite}
use Rattle.shared_disk.specs.declared.store.Record.{Record}

-- the image of a disk with these records
abbrev pub bytes_of : List Record → List ℕ
bytes_of records = flat_map (λ (r : Record). r.bytes) records

-- a file stands for this disk, with the write in which the device failed or without it
abbrev pub StandsFor : ℕ → List ℕ → Option PendingWrite → List ℕ → Type 0
StandsFor sectors disk None file = contents sectors file ≡ disk
StandsFor sectors disk (Some p) file = IsBeforeOrAfter sectors disk p.place p.bytes file

-- a write is being made, unless the device has failed in an earlier one
abbrev pub pending_with : Option PendingWrite → ℕ → List ℕ → Option PendingWrite
pending_with None place bytes = Some (record { place = place; bytes = bytes })
pending_with (Some p) place bytes = Some p

-- each record has as many bytes as a sector has
abbrev pub AreWhole : List Record → Type 0
AreWhole records = (i : ℕ) (r : Record) → slice_get records i ≡ Some r → length r.bytes ≡ 137

-- the file is on the disk and stands for the records; its journal has 4,096 blocks at most
pub record Works {D : Type 0} (seen : D → List ℕ) (may_leave : D → List ℕ → Type 0) (k : FileRecords D) : Type 0 where
  pub rests : Resting (length k.records.items) k.end (seen k.device)
  pub same : contents (length k.records.items) (seen k.device) ≡ bytes_of k.records.items
  pub durable : Only (seen k.device) (may_leave k.device)
  pub short : k.end ≤ 137 * length k.records.items + 573440

-- every crash leaves a file that stands for the records; unless the device has failed, the file is whole and on the disk
pub record IsKept {D : Type 0} (seen : D → List ℕ) (may_leave : D → List ℕ → Type 0) (k : FileRecords D) : Type 0 where
  pub few : length k.records.items ≤ 65536
  pub whole : AreWhole k.records.items
  pub stands : (c : List ℕ) → may_leave k.device c
      → StandsFor (length k.records.items) (bytes_of k.records.items) k.pending c
  pub works : k.pending ≡ None → Works seen may_leave k
  pub told : k.error ≡ None → k.pending ≡ None

-- a write of a sector is being made, if there is such a sector
abbrev pub pending_in : Option PendingWrite → SectorAddress → List ℕ → Option PendingWrite
pending_in pending address bytes =
    option_map_or (λ place. pending_with pending place bytes) (index_of address) pending
