-- At first none of the sectors is on the disk, and each turn puts the next one there.
use Rattle.std.proofs.Common.{◌+◌, [], arith, get_or, subst, sym, take}
use Rattle.std.specs.Prelude.{IsTrue}
use Rattle.std.proofs.lemmas.List.Elements.{All-more}
use Rattle.disk_dcdd.specs.Address.{address_of, has_sector}
use Rattle.disk_dcdd.specs.declared.sector.SectorWrite.{SectorWrite}
use Rattle.shared_disk.specs.Records as table
use Rattle.shared_disk.proofs.Booting.{next_put, nothing_put, taken_there}
use Rattle.shared_disk.proofs.memory_store.MemoryStore.at_boot.Goals as goal

pub loop-sector-init : goal.loop-sector-init
loop-sector-init c = record {
  stand = subst (λ store. table.IsAtBoot store c.args.drives []) (sym c.in_ok-store.ensures.ok)
      (nothing_put c.args.drives);
  on_drives = λ k d within. absurd (omega arith);
}

pub loop-sector-preserved : goal.loop-sector-preserved
loop-sector-preserved c =
    let i = c.loop-sector.sector-index in
    let sectors = c.args.sectors.now in
    let other : SectorWrite = record { number = 0; drive = 0; track = 0; sector = 0; bytes = [] } in
    let bytes = (get_or sectors i other).bytes in
    record {
      stand = subst (λ store. table.IsAtBoot store c.args.drives (take (i + 1) sectors)) (sym c.set_boot.ensures.after)
          (subst (λ address. table.IsAtBoot (table.with_record c.loop-sector.store address (table.boot_record bytes))
          c.args.drives (take (i + 1) sectors)) (sym c.address.ensures)
          (next_put c.loop-sector.store c.args.drives sectors i other c.loop-sector-test.true
          c.loop-sector.invariant.stand));
      on_drives = All-more (λ (w : SectorWrite). IsTrue (has_sector c.args.drives (address_of w))) sectors i other
          c.loop-sector-test.true c.loop-sector.invariant.on_drives
          (subst (λ address. IsTrue (has_sector c.args.drives address)) c.address.ensures
          (taken_there c.loop-sector.store c.args.drives (take i sectors) c.address.result c.in_ok-set_boot.field-0
          c.loop-sector.invariant.stand (sym c.in_ok-set_boot.ensures.answer)));
    }
