-- This many of the sectors are on the disk.
use Rattle.std.proofs.Common.{take}
use Rattle.shared_disk.specs.Records as table
use Rattle.shared_disk.proofs.memory_store.MemoryStore.at_boot.Given as goal

abbrev pub invariant-loop-sector : goal.invariant-loop-sector
invariant-loop-sector l = record {
  stand : table.IsAtBoot l.store l.drives (take l.sector-index l.sectors);
  on_drives : table.AreOnDrives l.drives (take l.sector-index l.sectors);
}
