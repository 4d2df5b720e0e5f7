-- The outstanding writes. When one is done, the others are unchanged, and no sector becomes busy: a filter keeps what
-- holds of each element and of each pair. Writes may be outstanding together exactly if each may follow those before
-- it, so a scan from the front decides it.
use Rattle.std.proofs.Common.{◌≡◌, ℕ, ◌+◌, ◌<◌, ◌≤◌, Bool, false, not, ◌==◌, Option, Some, None, List, [], ◌∷◌, length, take, get_or, refl, arith}
use Rattle.std.specs.Prelude.{IfSome}
use Rattle.std.specs.List.{filter, list_any}
use Rattle.std.specs.Option.{option_map_or}
use Rattle.std.proofs.lemmas.Grind.{common_steps}
use Rattle.std.proofs.lemmas.List.{take_more, length-take, get_or-take, get_or_default}
use Rattle.std.proofs.lemmas.List.Elements.{All-filter, All-push}
use Rattle.std.proofs.lemmas.List.Kept.{AllPairs-filter}
use Rattle.std.proofs.lemmas.List.Quantifiers.{all_pairs_push}
use Rattle.disk_dcdd.specs.declared.controller.TheConstants.{OUTSTANDING}
use Rattle.disk_dcdd.specs.declared.sector.CurrentSector.{CurrentSector}
use Rattle.disk_dcdd.specs.declared.sector.Place.{Place}
use Rattle.disk_dcdd.specs.Sector.{is_at}
use Rattle.disk_dcdd.specs.Drive.{Drives, drive_of}
use Rattle.disk_dcdd.specs.Completion.{is_busy_on, is_sector_busy, after_written}
use Rattle.disk_dcdd.specs.Controller.{IsUnderHead, IsIssued, Follows, MayFollow, AreOutstanding, IsDrives}

-- a filter finds nothing that was not there
pub list_any-filter : {X : Type 0} (p q : X → Bool) (xs : List X) → list_any p xs ≡ false → list_any p (filter q xs) ≡ false
list_any-filter p q [] none = refl
list_any-filter p q (x ∷ xs) none = grind (arith, common_steps, list_any-filter p q xs)

-- a filter makes no list longer
pub length-filter_le : {X : Type 0} (q : X → Bool) (xs : List X) → length (filter q xs) ≤ length xs
length-filter_le q [] = omega arith
length-filter_le q (x ∷ xs) = grind (arith, length-filter_le q xs)

-- any of the outstanding writes may be outstanding without the others
AreOutstanding-filter :
    (attached issued : ℕ) (q : Place → Bool) (places : List Place) →
    AreOutstanding attached issued places → AreOutstanding attached issued (filter q places)
AreOutstanding-filter attached issued q places h = record {
  few = omega (arith, length-filter_le q places);
  each = All-filter q (IsIssued attached issued) places h.each;
  order = AllPairs-filter Follows q places h.order;
}

-- no sector becomes busy when a write is done
is_sector_busy-written :
    (d : Drives) (number sector : ℕ) →
    is_sector_busy d sector ≡ false → is_sector_busy (after_written d number) sector ≡ false
is_sector_busy-written d number sector idle =
    let others : Place → Bool = λ place. not (place.number == number) in
    let busy : Drives → Option ℕ → Bool = λ d' selected. option_map_or (is_busy_on d' sector) selected false in
    elim d.selected as (λ selected. busy d selected ≡ false → busy (after_written d number) selected ≡ false) [
      | None ↦ λ idle. idle
      | Some drive ↦ λ idle. list_any-filter (is_at drive (drive_of d drive).track sector) others d.outstanding idle
    ] idle

-- the sector under the head stays there
still_under_head :
    (d : Drives) (number : ℕ) (current : Option CurrentSector) →
    IfSome current (IsUnderHead d) → IfSome current (IsUnderHead (after_written d number))
still_under_head d number None h = h
still_under_head d number (Some s) h = record {
  head = h.head;
  sector = h.sector;
  bytes = h.bytes;
  unfinished = h.unfinished;
  idle = is_sector_busy-written d number s.sector h.idle;
}

-- after a write is done, what holds of every controller still holds
pub IsDrives-written : (d : Drives) (number : ℕ) → IsDrives d → IsDrives (after_written d number)
IsDrives-written d number h = record {
  some = h.some;
  few = h.few;
  selected = h.selected;
  drives = h.drives;
  current = still_under_head d number d.current h.current;
  outstanding = AreOutstanding-filter d.attached d.issued (λ p. not (p.number == number)) d.outstanding h.outstanding;
  issued = h.issued;
}

-- the writes up to one that may follow them are outstanding together
pub AreOutstanding-more :
    (attached issued : ℕ) (places : List Place) (i : ℕ) (d : Place) → i < length places → length places ≤ OUTSTANDING →
    AreOutstanding attached issued (take i places) → MayFollow attached issued (take i places) (get_or places i d) →
    AreOutstanding attached issued (take (i + 1) places)
AreOutstanding-more attached issued places i d inside few before follows =
    rw (take_more places i d inside) (record {
      few = grind (arith, common_steps);
      each = All-push (IsIssued attached issued) (take i places) (get_or places i d) before.each follows.itself;
      order = all_pairs_push Follows (take i places) (get_or places i d) before.order follows.behind;
    })

-- of writes that are outstanding together, each may follow those before it
pub MayFollow-at :
    (attached issued : ℕ) (places : List Place) (i : ℕ) (d : Place) → i < length places →
    AreOutstanding attached issued places → MayFollow attached issued (take i places) (get_or places i d)
MayFollow-at attached issued places i d inside h = record {
  itself = h.each i d inside;
  behind = λ k e before.
      let earlier : k < i = omega (arith, length-take i places) in
      let k_inside : k < length places = omega arith in
      rw (get_or-take i places k e earlier, get_or_default places k e d k_inside) (h.order k i d earlier inside);
}
