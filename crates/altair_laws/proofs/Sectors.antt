-- What is not calm: a write is issued, a sector comes under the head, a write is done. Each keeps the controller
-- well-formed, since no write of a sector under the head is outstanding, so its write goes to another sector than the
-- outstanding ones.
use Rattle.std.proofs.Common.{◌≡◌, ℕ, ◌+◌, ◌≤◌, ◌<◌, Bool, true, false, cond, not, ◌==◌, List, length, get_or, Option, Some, None, ◌⊎◌, inl, inr, refl, sym, ap, ◌∙◌, subst, arith}
use Rattle.std.specs.Prelude.{IfSome, ◌&&◌, nat_lt, is_none}
use Rattle.std.specs.List.{list_any}
use Rattle.std.specs.Option.{option_map_or}
use Rattle.std.proofs.lemmas.Bool.{cases_Bool, and_parts, ltb-true, both_ways}
use Rattle.std.proofs.lemmas.List.{length_push, length-set}
use Rattle.std.proofs.lemmas.List.Elements.{All-push, All-filter}
use Rattle.std.proofs.lemmas.List.Folds.{list_any_at}
use Rattle.std.proofs.lemmas.List.Kept.{AllPairs-filter}
use Rattle.std.proofs.lemmas.List.Quantifiers.{all_pairs_push}
use Rattle.std.proofs.lemmas.Option.{cond_some, option_and_then_some}
use Rattle.altair_laws.proofs.Words.{CurrentSector, Drives, Follows, GREATEST_NUMBER, IsDrives, IsIssued, IsUnderHead, OUTSTANDING, Place, SECTORS, SECTOR_BYTES, SectorWrite, TRACKS, after_data, after_issue, after_keep, drive_of, has_room, is_at, is_busy_on, is_head_loaded, is_sector_busy, is_sector_due, issued_by, place_of, with_byte_filled, write_of}
use Rattle.disk_dcdd.specs.Completion.{after_sector, after_written}
use Rattle.disk_dcdd.proofs.Outstanding.{length-filter_le, list_any-filter}
use Rattle.altair_laws.proofs.Drives.{LAST_BYTE, IsOver, Stands, IsWholeSector}
use Rattle.altair_laws.proofs.Commands.{drive-track}

-- ---- a write is issued

-- a write of the sector under the head, with the next number
pub record Issues (d : Drives) (write : SectorWrite) : Type 0 where
  pub drive : ℕ
  pub sector : CurrentSector
  pub selected : d.selected ≡ Some drive
  pub current : d.current ≡ Some sector
  pub number : write.number ≡ d.issued + 1
  pub to_drive : write.drive ≡ drive
  pub to_track : write.track ≡ (drive_of d drive).track
  pub to_sector : write.sector ≡ sector.sector
  pub bytes : length write.bytes ≡ length sector.bytes
  pub room : length d.outstanding < OUTSTANDING

pub issues : (d : Drives) (byte : ℕ) (write : SectorWrite) → issued_by d byte ≡ Some write → Issues d write
issues d byte write h =
    option_and_then_some _ d.selected write h (λ drive is_drive h1.
    option_and_then_some _ d.current write h1 (λ sector is_sector h2.
    option_and_then_some _ sector.filled write h2
    (λ filled is_filled h3. at drive sector filled is_drive is_sector h3)))
  where
    at : (drive : ℕ) (sector : CurrentSector) (filled : ℕ) → d.selected ≡ Some drive → d.current ≡ Some sector
        → cond (filled == LAST_BYTE && has_room d) (Some (write_of d (with_byte_filled sector filled byte) drive)) None
        ≡ Some write → Issues d write
    at drive sector filled selected current k =
        let parts =
        cond_some (filled == LAST_BYTE && has_room d)
        (write_of d (with_byte_filled sector filled byte) drive) write k in
        record {
          drive = drive;
          sector = sector;
          selected = selected;
          current = current;
          number = ap (λ (w : SectorWrite). w.number) (sym parts.1);
          to_drive = ap (λ (w : SectorWrite). w.drive) (sym parts.1);
          to_track = ap (λ (w : SectorWrite). w.track) (sym parts.1);
          to_sector = ap (λ (w : SectorWrite). w.sector) (sym parts.1);
          bytes = ap (λ (w : SectorWrite). length w.bytes) (sym parts.1) ∙ length-set sector.bytes filled byte;
          room = ltb-true (length d.outstanding) OUTSTANDING (and_parts (filled == LAST_BYTE) (has_room d) parts.0).1;
        }

pub after_data-issue : (d : Drives) (byte : ℕ) (write : SectorWrite) → issued_by d byte ≡ Some write
    → after_data d byte ≡ after_issue d write
after_data-issue d byte write h = ap (λ o. option_map_or (after_issue d) o (after_keep d byte)) h

none_at : (p : Place → Bool) (xs : List Place) (k : ℕ) (e : Place) → list_any p xs ≡ false → k < length xs
    → p (get_or xs k e) ≡ false
none_at p xs k e none inside = go (cases_Bool (p (get_or xs k e)))
  where
    go : (p (get_or xs k e) ≡ true) ⊎ (p (get_or xs k e) ≡ false) → p (get_or xs k e) ≡ false
    go (inl t) = absurd (both_ways (list_any p xs) none (list_any_at p xs k e inside t))
    go (inr f) = f

-- the sector that is written, with its drive
pub over : (d : Drives) (write : SectorWrite) → Stands d → (i : Issues d write) → IsOver d i.sector
over d write h i = subst (λ o. IfSome o (IsOver d)) i.current h.current

pub attached : (d : Drives) (write : SectorWrite) → Stands d → (i : Issues d write) → i.drive < d.attached
attached d write h i = subst (λ o. IfSome o (λ n. n < d.attached)) i.selected h.selected

-- no outstanding write goes to its sector
pub not-busy : (d : Drives) (write : SectorWrite) → Stands d → (i : Issues d write)
    → list_any (is_at i.drive (drive_of d i.drive).track i.sector.sector) d.outstanding ≡ false
not-busy d write h i = sym (ap (λ o. option_map_or (is_busy_on d i.sector.sector) o false) i.selected)
    ∙ (over d write h i).idle

pub stands-issue : (d : Drives) (write : SectorWrite) → Issues d write → Stands d → Stands (after_issue d write)
stands-issue d write i h = record {
  some = h.some;
  few = h.few;
  selected = h.selected;
  drives = h.drives;
  current = tt;
  outstanding = record {
    few = (let n = length_push d.outstanding (place_of write) in let r = i.room in (omega arith));
    each = All-push (IsIssued d.attached write.number) d.outstanding (place_of write)
        (λ k e l. later (h.outstanding.each k e l)) itself;
    order = all_pairs_push Follows d.outstanding (place_of write) h.outstanding.order (λ k e l. follows k e l);
  };
}
  where
    later : {place : Place} → IsIssued d.attached d.issued place → IsIssued d.attached write.number place
    later {place} q = record {
      first = q.first;
      last = (let n = i.number in let l = q.last in (omega arith));
      drive = q.drive;
      track = q.track;
      sector = q.sector;
    }

    itself : IsIssued d.attached write.number (place_of write)
    itself = record {
      first = (let n = i.number in (omega arith));
      last = omega arith;
      drive = subst (λ n. n < d.attached) (sym i.to_drive) (attached d write h i);
      track = subst (λ n. n < TRACKS) (sym i.to_track) (drive-track d i.drive h (attached d write h i));
      sector = subst (λ n. n < SECTORS) (sym i.to_sector) (over d write h i).sector;
    }

    follows : (k : ℕ) (e : Place) → k < length d.outstanding → Follows (get_or d.outstanding k e) (place_of write)
    follows k e l =
        let x = get_or d.outstanding k e in
        let q = h.outstanding.each k e l in
        record {
          number = (let n = i.number in let m = q.last in (omega arith));
          elsewhere =
              ap (λ n. is_at n write.track write.sector x) i.to_drive
              ∙ ap (λ n. is_at i.drive n write.sector x) i.to_track
              ∙ ap (λ n. is_at i.drive (drive_of d i.drive).track n x) i.to_sector
              ∙ none_at (is_at i.drive (drive_of d i.drive).track i.sector.sector) d.outstanding k e
              (not-busy d write h i) l;
        }

-- ---- a sector comes

pub stands-sector : (d : Drives) (sector : ℕ) (bytes : List ℕ) → is_sector_due d sector ≡ true
    → is_sector_busy d sector ≡ false → Stands d → Stands (after_sector d sector bytes)
stands-sector d sector bytes due idle h =
    let parts = and_parts (is_head_loaded d && is_none d.current) (nat_lt sector SECTORS) due in
    record {
      some = h.some;
      few = h.few;
      selected = h.selected;
      drives = h.drives;
      current = record {
        head = (and_parts (is_head_loaded d) (is_none d.current) parts.0).0;
        sector = ltb-true sector SECTORS parts.1;
        unfinished = record { read = omega arith; filled = tt };
        idle = idle;
      };
      outstanding = h.outstanding;
    }

-- ---- a write is done

pub stands-written : (d : Drives) (number : ℕ) → Stands d → Stands (after_written d number)
stands-written d number h = record {
  some = h.some;
  few = h.few;
  selected = h.selected;
  drives = h.drives;
  current = still d.current h.current;
  outstanding = record {
    few = (let l = length-filter_le others d.outstanding in let f = h.outstanding.few in (omega arith));
    each = All-filter others (IsIssued d.attached d.issued) d.outstanding h.outstanding.each;
    order = AllPairs-filter Follows others d.outstanding h.outstanding.order;
  };
}
  where
    others : Place → Bool
    others = λ place. not (place.number == number)

    idle : (sector : ℕ) (o : Option ℕ) → option_map_or (is_busy_on d sector) o false ≡ false
        → option_map_or (is_busy_on (after_written d number) sector) o false ≡ false
    idle sector None e = refl
    idle sector (Some drive) e =
        list_any-filter (is_at drive (drive_of d drive).track sector)
        (λ place. not (place.number == number)) d.outstanding e

    still : (o : Option CurrentSector) → IfSome o (IsOver d) → IfSome o (IsOver (after_written d number))
    still None over = tt
    still (Some s) over =
        record {
          head = over.head;
          sector = over.sector;
          unfinished = over.unfinished;
          idle =
              idle s.sector d.selected over.idle;
        }

-- ---- the controller is well-formed

pub drives-stand : (d : Drives) → Stands d → IsWholeSector d → d.issued ≤ GREATEST_NUMBER → IsDrives d
drives-stand d h whole few = record {
  some = h.some;
  few = h.few;
  selected = h.selected;
  drives = h.drives;
  current = under d.current h.current whole;
  outstanding = h.outstanding;
  issued = few;
}
  where
    under : (o : Option CurrentSector) → IfSome o (IsOver d) → IfSome o (λ s. length s.bytes ≡ SECTOR_BYTES)
        → IfSome o (IsUnderHead d)
    under None over bytes = tt
    under (Some s) over bytes =
        record { head = over.head; sector = over.sector; bytes = bytes; unfinished = over.unfinished; idle = over.idle }
