-- The record that is put has all its bytes.
use Rattle.std.proofs.Common.{subst, sym}
use Rattle.shared_disk.specs.Records as table
use Rattle.shared_disk.proofs.Booting.{put_is_whole}
use Rattle.shared_disk.proofs.memory_store.MemoryStore.put.Goals as goal

pub invariant_of-self : goal.invariant_of-self
invariant_of-self c =
    subst table.HasWholeSectors (sym c.put_among.ensures.after)
    (put_is_whole c.self.inside.records.items c.args.address c.args.content c.has_all.ensures c.self.invariant)
