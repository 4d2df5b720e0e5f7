-- What the two devices that all nodes share show of a world: the disk shows its writes, the arbiter its winners.
use Rattle.std.specs.Prelude.{◌≡◌, ℕ, IsTrue, List}
use Rattle.arbiter_core.specs.Winners.{winner_of}
use Rattle.arbiter_core.specs.declared.arbiter.Asking.{Asking}
use Rattle.disk_dcdd.specs.Address.{has_sector}
use Rattle.disk_dcdd.specs.declared.address.SectorAddress.{SectorAddress}
use Rattle.disk_dcdd.specs.declared.sector.SectorWrite.{SectorWrite}
use Rattle.guest_lockstep.specs.Machine.{Machine}
use Rattle.shared_disk.specs.Records.{IsAt}
use Rattle.shared_disk.specs.declared.store.Record.{Record}
use Rattle.pair_protocol.specs.World.{Winner, sector_record, winner_in}

-- the winners of the askings that an arbiter keeps are those of the world
abbrev pub AreWinners : List Asking → List Winner → Type 0
AreWinners askings winners = (generation : ℕ) → winner_of askings generation ≡ winner_in winners generation

-- the disk has a record for each sector of its drives: what the writes that arrived have left there
pub record IsDisk {S : Type 0} (M : Machine S) (drives : ℕ) (records : List Record) (puts : List SectorWrite)
    : Type 0 where
  pub there : (address : SectorAddress) → IsTrue (has_sector drives address)
      → (r : Record) × IsAt records address r
  pub kept : (address : SectorAddress) (r : Record) → IsAt records address r
      → (r.number ≡ (sector_record M puts address).number)
      × (r.bytes ≡ (sector_record M puts address).bytes)
