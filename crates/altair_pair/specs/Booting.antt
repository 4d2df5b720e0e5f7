-- A pair that has booted as its setup says.
use Rattle.guest_parts.specs.Guest.{Guest}
use Rattle.std.specs.Prelude.{◌≡◌, ℕ, ◌+◌, List}
use Rattle.disk_dcdd.specs.declared.sector.SectorWrite.{SectorWrite}
use Rattle.guest_lockstep.specs.Machine.{Machine}
use Rattle.guest_lockstep.specs.declared.reads.Reads.{Reads}
use Rattle.pair_protocol.specs.Copying.{Copying}
use Rattle.pair_protocol.specs.World.{World, with_host}
use Rattle.shared_disk.specs.Records.{HasDrives, IsAtBoot, IsUnwritten}
use Rattle.shared_disk.specs.declared.store.Record.{Record}
use Rattle.ft_world.specs.Applies.{Shows}
use Rattle.ft_world.specs.Beginning.{beginning}
use Rattle.ft_world.specs.Running.{Running}
use Rattle.ft_world.specs.Standing.{machine_of}
use Rattle.shared_disk.specs.Failing.{Disk, records_in}

-- a pair, and spare hosts that are added to it, up to this many hosts
pub data HostsCome {S : Type 0} (M : Machine S) (w : World S) : ℕ → World S → Type 0 where
  Pair : HostsCome M w 2 w
  Spare : {hosts : ℕ} {v : World S} → HostsCome M w hosts v → HostsCome M w (hosts + 1) (with_host M v)

-- What is shown once a pair has booted: the world that it begins with, whose log carries sectors like this, and this many
-- hosts. Its disk has these sectors, and nothing is written on it. One access of it will fail, the one of this number after
-- boot, or none if it is 0.
pub record IsBooted {B H S : Type 0} (state : B → S) (copied : B → Guest) (M : Machine S) (C : Copying S) (reads : Reads) (boot : S)
    (drives failing hosts : ℕ) (sectors : List SectorWrite) (v : Running B H Disk) : Type 0 where
  pub store : List Record
  pub has_drives : HasDrives store drives
  pub unwritten : IsUnwritten store
  pub at_boot : IsAtBoot store drives sectors
  pub fails_at : v.disk.left ≡ failing
  pub world : World S
  pub come : HostsCome (machine_of M (beginning M C reads boot store)) (beginning M C reads boot store).world hosts world
  pub shows : Shows state copied M records_in v (record (beginning M C reads boot store) { world = world })
