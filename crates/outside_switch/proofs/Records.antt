-- The disk has the record of the greatest number for each sector, and is read there; if it fails, its records stay.
use Rattle.std.proofs.Common.{◌≡◌, [], ◌∷◌, ◌++◌, ◌∙◌, List, None, Option, Some, ap, refl, subst, sym, ℕ}
use Rattle.std.specs.Option.{option_map}
use Rattle.std.specs.Prelude.{IsSome}
use Rattle.std.proofs.lemmas.Option.{same_Some}
use Rattle.event_callbacks.specs.declared.operations.Operation.TheVariants.{Write}
use Rattle.host_law.specs.Outside as outside
use Rattle.pair_protocol.proofs.SharedDevices.{disk_put, not_put}
use Rattle.pair_protocol.specs.World.{Released, SectorRead}
use Rattle.shared_disk.specs.declared.disk.SectorRead as device
use Rattle.outside_switch.proofs.Words.{AsksSector, Carries, Held, IsDisk, IsThere, Machine, Outside, OutsideStep, Record, SectorAddress, SectorWrite, Shows, address_of, after_put, answering, read_of, record_at, sector_record}
use Rattle.outside_switch.specs.Steps.{DiskMakes}

there_is : (o : Option Record) → IsSome o → (r : Record) × (o ≡ Some r)
there_is (Some r) s = (r, refl)
there_is None s = absurd (cc)

read_is : (address : SectorAddress) (o : Option Record) (read : device.SectorRead) →
    option_map (read_of address) o ≡ Some read → (r : Record) × (o ≡ Some r) × (read_of address r ≡ read)
read_is address (Some r) read e = (r, refl, same_Some (read_of address r) read e)
read_is address None read e = absurd (cc)

module _ {S : Type 0} (M : Machine S) (drives : ℕ) (held : Held) (o : Outside) (h : Shows M drives held o) where
  with_disk : (records : List Record) (may_fail : Option ℕ) (writes : List SectorWrite) → IsDisk M drives records writes →
      Shows M drives (record held { records = records; may_fail = may_fail }) (record o { puts = writes })
  with_disk records may_fail writes disk =
      record { terminals = h.terminals; winners = h.winners; disk = disk; hosts = h.hosts }

  same_disk : (records : List Record) (may_fail : Option ℕ) → records ≡ held.records →
      Shows M drives (record held { records = records; may_fail = may_fail }) o
  same_disk records may_fail same =
      with_disk records may_fail o.puts (subst (λ l. IsDisk M drives l o.puts) (sym same) h.disk)

  puts : (write : SectorWrite) (records : List Record) → IsThere held.records (address_of write) →
      records ≡ after_put held.records write → IsDisk M drives records (o.puts ++ write ∷ [])
  puts write records there after =
      let met = there_is (record_at held.records (address_of write)) there in
      subst (λ l. IsDisk M drives l (o.puts ++ write ∷ [])) (sym after)
      (disk_put M drives held.records o.puts write met.0 h.disk met.1)

  reads : (address : SectorAddress) (read : device.SectorRead) →
      option_map (read_of address) (record_at held.records address) ≡ Some read →
      OutsideStep M o (answering (AsksSector address) (Carries (SectorRead address read.number read.bytes))) o
  reads address read is =
      let found = read_is address (record_at held.records address) read is in
      let kept = h.disk.kept address found.0 found.1 in
      let number : read.number ≡ (sector_record M o.puts address).number =
      ap (λ (r : device.SectorRead). r.number) (sym found.2) ∙ kept.0 in
      let bytes : read.bytes ≡ (sector_record M o.puts address).bytes =
      ap (λ (r : device.SectorRead). r.bytes) (sym found.2) ∙ kept.1 in
      subst (λ n. OutsideStep M o (answering (AsksSector address) (Carries (SectorRead address n read.bytes))) o)
      (sym number)
      (subst (λ l. OutsideStep M o (answering (AsksSector address)
      (Carries (SectorRead address (sector_record M o.puts address).number l))) o) (sym bytes) (outside.Reads address))

  pub disk_makes : DiskMakes M drives held o
  disk_makes = record {
    puts = λ write records may_fail put. record {
      step = outside.Puts write;
      shows = with_disk records may_fail (o.puts ++ write ∷ []) (puts write records put.0 put.1);
    };
    drops_write = λ write fault records may_fail put. record {
      makes = record { step = outside.Drops (Carries (Released (Write write))); shows = same_disk records may_fail put.1 };
      why = λ on_disk.
          let met = h.disk.there (address_of write) on_disk in
          not_put held.records (address_of write) met.0 fault met.1 put.0;
    };
    reads = λ address read records may_fail got. record {
      step = reads address read got.0;
      shows = same_disk records may_fail got.1;
    };
    drops_read = λ address fault records may_fail got. record {
      makes = record { step = outside.Drops (AsksSector address); shows = same_disk records may_fail got.1 };
      why = λ on_disk.
          let met = h.disk.there address on_disk in not_put held.records address met.0 fault met.1 got.0;
    };
  }
