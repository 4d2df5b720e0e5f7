-- Drives that agree with another disk in each sector have at boot what that one has, and nothing past it.
use Rattle.std.proofs.Common.{◌≡◌, ⊎_elim, ℕ, ◌<◌, ◌≤◌, Bool, true, false, ◌&&◌, All, List, length, Option, Some, None, refl, sym, ap, ◌∙◌, arith}
use Rattle.std.specs.Prelude.{nat_lt, if◌then◌else◌, replicate, slice_get}
use Rattle.std.specs.Option.{option_and_then}
use Rattle.std.proofs.lemmas.Bool.{ltb-true, ltb-false}
use Rattle.std.proofs.lemmas.Option.{same_Some, slice_get_past}
use Rattle.disk_dcdd.specs.Address.{bytes_with_all, has_sector, is_on_disk}
use Rattle.disk_dcdd.specs.declared.address.SectorAddress.{SectorAddress}
use Rattle.disk_dcdd.specs.declared.sector.SectorWrite.{SectorWrite}
use Rattle.disk_dcdd.specs.declared.sector.TheConstants.{SECTOR_BYTES}
use Rattle.shared_disk.specs.Records.{IsAtBoot, boot_record, record_at}
use Rattle.shared_disk.specs.declared.store.Record.{Record}
use Rattle.disk_file.specs.Drives.{AgreeOnDrive, IsBooted, IsDrive, all_records}
use Rattle.disk_file.specs.declared.kept.FileRecords.{FileRecords}
use Rattle.disk_file.proofs.Drives.{Nowhere, Place, at_none, place_of}

record_if : Bool → List ℕ → Option Record
record_if there bytes = if there then Some (boot_record bytes) else None

none_past : (on : Bool) → on && false ≡ false
none_past true = refl
none_past false = refl

number_of : (there : Bool) (bytes : List ℕ) (r : Record) → record_if there bytes ≡ Some r → r.number ≡ 0
unfolding record_if
number_of true bytes r is = sym (ap (λ (r : Record). r.number) (same_Some (boot_record bytes) r is))
number_of false bytes r is = absurd (cc)

module _ {D : Type 0} (list : List (FileRecords D)) (are : All IsDrive list) (drives : ℕ) (many : length list ≡ drives) (others : List Record)
    (alike : (d : ℕ) → d < drives → AgreeOnDrive d (all_records list) others) (sectors : List SectorWrite)
    (boot : IsAtBoot others drives sectors) where
  at_place : (a : SectorAddress) → Place a → (within : Bool) → nat_lt a.drive drives ≡ within
      → record_at (all_records list) a ≡ record_if (has_sector drives a) (bytes_with_all sectors a (replicate SECTOR_BYTES 0))
  unfolding record_if
  at_place a p true is = alike a.drive (ltb-true _ _ is) a.track p.track a.sector p.sector ∙ boot a
  at_place a p false is =
      let past : drives ≤ a.drive = ltb-false _ _ is in
      let lacks : has_sector drives a ≡ false = ap (λ (b : Bool). is_on_disk a && b) is ∙ none_past (is_on_disk a) in
      at_none list are a (slice_get_past list a.drive (omega (arith, many, past)))
      ∙ sym (ap (λ (b : Bool). if b then Some (boot_record (bytes_with_all sectors a (replicate SECTOR_BYTES 0))) else None) lacks)

  boots : IsAtBoot (all_records list) drives sectors
  unfolding record_if
  boots a = ⊎_elim (λ (p : Place a). at_place a p (nat_lt a.drive drives) refl)
      (λ (n : Nowhere a). ap (option_and_then (slice_get (all_records list))) n.all
      ∙ sym (ap (option_and_then (slice_get others)) n.all) ∙ boot a) (place_of a)

  pub are_alike : IsBooted (all_records list) drives sectors
  unfolding record_if
  are_alike = record {
    boots = boots;
    unwritten = λ a r is. number_of (has_sector drives a) (bytes_with_all sectors a (replicate SECTOR_BYTES 0)) r (sym (boots a) ∙ is);
  }
