-- A pair begins with two hosts, and each spare host that is added is one more.
use Rattle.guest_parts.specs.Guest.{Guest}
use Rattle.std.proofs.Common.{◌≡◌, ℕ, ◌+◌, List, ap, ◌∙◌}
use Rattle.disk_dcdd.specs.declared.sector.SectorWrite.{SectorWrite}
use Rattle.guest_lockstep.specs.Machine.{Machine}
use Rattle.guest_lockstep.specs.declared.reads.Reads.{Reads}
use Rattle.pair_protocol.specs.Copying.{Copying}
use Rattle.pair_protocol.specs.World.{with_host}
use Rattle.shared_disk.specs.Records.{HasDrives, IsAtBoot, IsUnwritten}
use Rattle.shared_disk.specs.declared.store.Record.{Record}
use Rattle.ft_world.specs.Applies.{Shows}
use Rattle.ft_world.specs.Beginning.{beginning}
use Rattle.ft_world.specs.Running.{Running}
use Rattle.ft_world.specs.Standing.{Course, machine_of}
use Rattle.shared_disk.specs.Failing.{Disk, records_in}
use Rattle.altair_pair.specs.Booting.{IsBooted, Pair, Spare}

module _ {B H S : Type 0} (state : B → S) (copied : B → Guest) (M : Machine S) (C : Copying S) (reads : Reads) (boot : S)
    (drives failing : ℕ) (sectors : List SectorWrite) where
  -- the pair alone
  pub booted_pair : (store : List Record) (v : Running B H Disk) → HasDrives store drives → IsUnwritten store
      → IsAtBoot store drives sectors → v.disk.left ≡ failing
      → Shows state copied M records_in v (beginning M C reads boot store)
      → IsBooted state copied M C reads boot drives failing 2 sectors v
  booted_pair store v has unwritten at_boot fails_at shows = record {
    store = store;
    has_drives = has;
    unwritten = unwritten;
    at_boot = at_boot;
    fails_at = fails_at;
    world = (beginning M C reads boot store).world;
    come = Pair;
    shows = shows;
  }

  -- one more host
  pub booted_host : (hosts : ℕ) (old new : Running B H Disk)
      → IsBooted state copied M C reads boot drives failing hosts sectors old
      → ((c : Course S) → Shows state copied M records_in old c
      → Shows state copied M records_in new (record c { world = with_host (machine_of M c) c.world }))
      → new.disk ≡ old.disk
      → IsBooted state copied M C reads boot drives failing (hosts + 1) sectors new
  booted_host hosts old new b comes disk = record {
    store = b.store;
    has_drives = b.has_drives;
    unwritten = b.unwritten;
    at_boot = b.at_boot;
    fails_at = ap (λ (d : Disk). d.left) disk ∙ b.fails_at;
    world = with_host (machine_of M (beginning M C reads boot b.store)) b.world;
    come = Spare b.come;
    shows = comes (record (beginning M C reads boot b.store) { world = b.world }) b.shows;
  }
