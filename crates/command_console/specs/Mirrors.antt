-- A copy of the pair's disk: what is put on the disk goes through a ring, and is put on the copy in that order.
use Rattle.std.specs.Prelude.{◌≡◌, ◌⊎◌, ℕ, IsTrue, List, [], ◌∷◌, ◌++◌}
use Rattle.command_console.specs.declared.mirror.Mirror.{Mirror}
use Rattle.command_console.specs.declared.mirror.Mirrored.{Mirrored}
use Rattle.command_io.specs.Saving.{images_of}
use Rattle.disk_dcdd.specs.declared.address.SectorAddress.{SectorAddress}
use Rattle.disk_dcdd.specs.declared.sector.SectorWrite.{SectorWrite}
use Rattle.rtrb.specs.Ring.{known_free, known_items, received, sent}
use Rattle.rtrb.specs.declared.AnyItems.{AnyItems}
use Rattle.rtrb.specs.declared.consumer.Consumer.{Consumer}
use Rattle.shared_disk.specs.Arrivals.{after_put}
use Rattle.shared_disk.specs.declared.store.Record.{Record}
use Rattle.std.specs.Global.{Global}

-- the write that brings a record to a sector
abbrev pub write_of : SectorAddress → Record → SectorWrite
write_of address content = record {
  number = content.number;
  drive = address.drive;
  track = address.track;
  sector = address.sector;
  bytes = content.bytes;
}

-- what a store has taken went through the ring too; or there was no room for it in the ring, and the store says that its copy is behind
-- from then on
abbrev pub IsMirrored : Mirrored → Mirrored → SectorWrite → Type 0
IsMirrored old new write = ((sent new.writes ≡ sent old.writes ++ write ∷ []) × (new.is_behind ≡ old.is_behind))
    ⊎ ((known_free new.writes ≡ 0) × IsTrue new.is_behind)

-- the records of a disk on which these were put, one after another
abbrev pub after_writes : List Record → List SectorWrite → List Record
after_writes records [] = records
after_writes records (write ∷ writes) = after_writes (after_put records write) writes

-- some writes came out of the ring, and all of them were put on the copy in that order
pub record Follows (old new : Mirror) : Type 0 where
  pub writes : List SectorWrite
  pub came : received new.writes ≡ received old.writes ++ writes
  pub disk : new.disk ≡ after_writes old.disk writes

-- an image of a drive, with all that came out of the ring until it was empty
pub record IsOfMoment (old : Mirror) (ring : Consumer SectorWrite Global AnyItems) (drive : ℕ) (image : List ℕ) : Type 0 where
  pub writes : List SectorWrite
  pub came : received ring ≡ received old.writes ++ writes
  pub all : known_items ring ≡ []
  pub is : image ≡ images_of (after_writes old.disk writes) (drive ∷ [])

-- an image of a drive of a copy, with all that had come by then
pub record IsOfCopy (drive : ℕ) (image : List ℕ) : Type 0 where
  pub copy : Mirror
  pub ring : Consumer SectorWrite Global AnyItems
  pub of_moment : IsOfMoment copy ring drive image
