-- Which sectors a machine reads and writes: those of its own drives.
use Rattle.std.specs.Prelude.{◌≡◌, ℕ, ◌<◌, IsTrue, true, Some, List}
use Rattle.disk_dcdd.specs.Address.{address_of, has_sector}
use Rattle.disk_dcdd.specs.declared.sector.SectorWrite.{SectorWrite}
use Rattle.disk_dcdd.specs.declared.sector.TheConstants.{SECTORS}
use Rattle.event_callbacks.specs.declared.operations.OpId.{OpId}
use Rattle.event_callbacks.specs.declared.operations.Operation.TheVariants.{Write}
use Rattle.guest_lockstep.specs.Machine.{Machine, Move}
use Rattle.pair_protocol.specs.Lawful.{Reaches}

-- a machine reads and writes only sectors of this many drives
pub record StaysOnDisk {S : Type 0} (M : Machine S) (drives : ℕ) : Type 0 where
  -- what may come under the head of the selected drive
  pub reads : (moves : List Move) (s : S) (drive sector : ℕ) → Reaches M moves s → M.selected s ≡ Some drive
      → sector < SECTORS → IsTrue (has_sector drives (M.address s drive sector))
  -- where an outstanding write goes
  pub writes : (moves : List Move) (s : S) (name : OpId) (write : SectorWrite) → Reaches M moves s
      → M.find s name ≡ Some (Write write) → IsTrue (has_sector drives (address_of write))

-- a sector is only ready at the selected drive
abbrev pub ReadyIsSelected : {S : Type 0} → Machine S → Type 0
ReadyIsSelected {S} M =
    (s : S) (drive sector : ℕ) → M.ready s (M.address s drive sector) ≡ true → M.selected s ≡ Some drive
