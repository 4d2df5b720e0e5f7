-- The tests of a controller are those of every controller: each test decides its fact.
use Rattle.std.proofs.Common.{◌≡◌, ℕ, suc, ◌<◌, Bool, true, not, List, [], ◌∷◌, length, drop, Option, Some, None, refl, ap, ◌∙◌, arith}
use Rattle.std.specs.Prelude.{All, AllPairs, IfSome, ◌==◌, nat_lt, nat_le}
use Rattle.std.specs.List.{list_all}
use Rattle.std.specs.Option.{option_map_or}
use Rattle.std.proofs.lemmas.Bool.{eqb-true, ltb-true, and_parts, and_from, le-leb, lt-ltb, leb-true, not-true}
use Rattle.std.proofs.lemmas.List.Elements.{All-cons, All-head, All-tail}
use Rattle.std.proofs.lemmas.List.Kept.{AllPairs-cons}
use Rattle.disk_dcdd.specs.Command.{drive_at_boot}
use Rattle.disk_dcdd.specs.Completion.{is_head_loaded, is_sector_busy}
use Rattle.clone_state.proofs.Words.{CurrentSector, Drive, Drives, Follows, GREATEST_NUMBER, IsDrives, IsIssued, IsUnderHead, Place, SECTORS, SECTOR_BYTES, are_drives, are_in_order, are_outstanding, has_current, has_drives, is_at, is_at_boot, is_controller, is_issued, is_on_track, may_be_under_head, may_follow, selects_attached}
use Rattle.disk_dcdd.specs.declared.controller.TheConstants.{DRIVES, OUTSTANDING}
use Rattle.disk_dcdd.specs.declared.drive.TheConstants.{TRACKS}

-- ---- tests

list_passes : {A : Type 0} (test : A → Bool) (P : A → Type 0) → ((x : A) → P x → test x ≡ true) → (xs : List A)
    → All P xs → list_all test xs ≡ true
list_passes test P f [] h = refl
list_passes test P f (x ∷ xs) h =
    and_from (test x) (list_all test xs) (f x (All-head P x xs h)) (list_passes test P f xs (All-tail P x xs h))

list_holds : {A : Type 0} (test : A → Bool) (P : A → Type 0) → ((x : A) → test x ≡ true → P x) → (xs : List A)
    → list_all test xs ≡ true → All P xs
list_holds test P f [] e = λ k x inside. absurd (omega (arith, inside))
list_holds test P f (x ∷ xs) e =
    let two = and_parts (test x) (list_all test xs) e in
    All-cons P x xs (f x two.0) (list_holds test P f xs two.1)

-- ---- what every controller is passes the tests

drive_passes : (ds : List Drive) → All (λ drive. drive.track < TRACKS) ds → list_all is_on_track ds ≡ true
drive_passes ds h =
    list_passes is_on_track (λ (drive : Drive). drive.track < TRACKS) (λ drive less. lt-ltb drive.track TRACKS less) ds h

boot_passes : (ds : List Drive) → All (λ drive. drive ≡ drive_at_boot) ds → list_all is_at_boot ds ≡ true
boot_passes ds h =
    list_passes is_at_boot (λ (drive : Drive). drive ≡ drive_at_boot) (λ drive e. ap is_at_boot e) ds h

filled_passes : (o : Option ℕ) → IfSome o (λ filled. filled < SECTOR_BYTES)
    → option_map_or (λ filled. nat_lt filled SECTOR_BYTES) o true ≡ true
filled_passes None h = refl
filled_passes (Some n) h = lt-ltb n SECTOR_BYTES h

head_passes : (d : Drives) (s : CurrentSector) → IsUnderHead d s → may_be_under_head d s ≡ true
head_passes d s h =
    and_from _ (not (is_sector_busy d s.sector))
    (and_from _ (option_map_or (λ filled. nat_lt filled SECTOR_BYTES) s.filled true)
    (and_from _ (nat_lt s.read SECTOR_BYTES)
    (and_from (is_head_loaded d) (nat_lt s.sector SECTORS) h.head
    (lt-ltb s.sector SECTORS h.sector))
    (lt-ltb s.read SECTOR_BYTES h.unfinished.read))
    (filled_passes s.filled h.unfinished.filled))
    (ap not h.idle)

current_passes : (d : Drives) (o : Option CurrentSector) → IfSome o (IsUnderHead d)
    → option_map_or (may_be_under_head d) o true ≡ true
current_passes d None h = refl
current_passes d (Some s) h = head_passes d s h

selected_passes : (attached : ℕ) (o : Option ℕ) → IfSome o (λ drive. drive < attached)
    → option_map_or (λ drive. nat_lt drive attached) o true ≡ true
selected_passes attached None h = refl
selected_passes attached (Some n) h = lt-ltb n attached h

issued_passes : (d : Drives) (place : Place) → IsIssued d.attached d.issued place → is_issued d place ≡ true
issued_passes d place h =
    and_from _ (nat_lt place.sector SECTORS)
    (and_from _ (nat_lt place.track TRACKS)
    (and_from _ (nat_lt place.drive d.attached)
    (and_from (nat_le 1 place.number) (nat_le place.number d.issued) (le-leb 1 place.number h.first)
    (le-leb place.number d.issued h.last)) (lt-ltb place.drive d.attached h.drive))
    (lt-ltb place.track TRACKS h.track)) (lt-ltb place.sector SECTORS h.sector)

follow_passes : (earlier later : Place) → Follows earlier later → may_follow earlier later ≡ true
follow_passes earlier later h =
    and_from (nat_lt earlier.number later.number) _ (lt-ltb earlier.number later.number h.number)
    (ap not h.elsewhere)

pairs_head : (x : Place) (xs : List Place) → AllPairs Follows (x ∷ xs) → All (Follows x) xs
pairs_head x xs h = λ k d inside. h 0 (suc k) d (omega arith) (omega (arith, inside))

pairs_tail : (x : Place) (xs : List Place) → AllPairs Follows (x ∷ xs) → AllPairs Follows xs
pairs_tail x xs h = λ i j d less inside. h (suc i) (suc j) d (omega (arith, less)) (omega (arith, inside))

order_passes : (places : List Place) → AllPairs Follows places → are_in_order places ≡ true
order_passes [] h = refl
order_passes (place ∷ places) h =
    and_from (list_all (may_follow place) places) (are_in_order places)
    (list_passes (may_follow place) (Follows place) (follow_passes place) places (pairs_head place places h))
    (order_passes places (pairs_tail place places h))

pub controller_passes : (d : Drives) → IsDrives d → is_controller d ≡ true
unfolding is_controller
controller_passes d h =
    and_from _ (nat_le d.issued GREATEST_NUMBER)
    (and_from _ (are_outstanding d)
    (and_from _ (has_current d)
    (and_from _ (are_drives d)
    (and_from (has_drives d.attached) (selects_attached d)
    (and_from (nat_le 1 d.attached) (nat_le d.attached DRIVES) (le-leb 1 d.attached h.some)
    (le-leb d.attached DRIVES h.few))
    (selected_passes d.attached d.selected h.selected))
    (and_from (list_all is_on_track d.drives) (list_all is_at_boot (drop d.attached d.drives))
    (drive_passes d.drives h.drives.tracks) (boot_passes (drop d.attached d.drives) h.drives.unattached)))
    (current_passes d d.current h.current))
    (and_from _ (are_in_order d.outstanding)
    (and_from (nat_le (length d.outstanding) OUTSTANDING) (list_all (is_issued d) d.outstanding)
    (le-leb (length d.outstanding) OUTSTANDING h.outstanding.few)
    (list_passes (is_issued d) (IsIssued d.attached d.issued) (issued_passes d) d.outstanding h.outstanding.each))
    (order_passes d.outstanding h.outstanding.order)))
    (le-leb d.issued GREATEST_NUMBER h.issued)

-- ---- what passes the tests is a controller

boot_holds : (drive : Drive) → is_at_boot drive ≡ true → drive ≡ drive_at_boot
boot_holds drive e =
    let two = and_parts (drive.track == 0) (not drive.loaded) e in
    ap (λ t. record drive { track = t }) (eqb-true drive.track 0 two.0)
    ∙ ap (λ l. record drive_at_boot { loaded = l }) (not-true drive.loaded two.1)

filled_holds : (o : Option ℕ) → option_map_or (λ filled. nat_lt filled SECTOR_BYTES) o true ≡ true
    → IfSome o (λ filled. filled < SECTOR_BYTES)
filled_holds None e = tt
filled_holds (Some n) e = ltb-true n SECTOR_BYTES e

head_holds : (d : Drives) (s : CurrentSector) → length s.bytes ≡ SECTOR_BYTES → may_be_under_head d s ≡ true
    → IsUnderHead d s
head_holds d s long e =
    let a = and_parts _ (not (is_sector_busy d s.sector)) e in
    let b = and_parts _ (option_map_or (λ filled. nat_lt filled SECTOR_BYTES) s.filled true) a.0 in
    let c = and_parts _ (nat_lt s.read SECTOR_BYTES) b.0 in
    let f = and_parts (is_head_loaded d) (nat_lt s.sector SECTORS) c.0 in
    record {
      head = f.0;
      sector = ltb-true s.sector SECTORS f.1;
      bytes = long;
      unfinished = record { read = ltb-true s.read SECTOR_BYTES c.1; filled = filled_holds s.filled b.1 };
      idle = not-true (is_sector_busy d s.sector) a.1;
    }

current_holds : (d : Drives) (o : Option CurrentSector) → IfSome o (λ s. length s.bytes ≡ SECTOR_BYTES)
    → option_map_or (may_be_under_head d) o true ≡ true → IfSome o (IsUnderHead d)
current_holds d None long e = tt
current_holds d (Some s) long e = head_holds d s long e

selected_holds : (attached : ℕ) (o : Option ℕ) → option_map_or (λ drive. nat_lt drive attached) o true ≡ true
    → IfSome o (λ drive. drive < attached)
selected_holds attached None e = tt
selected_holds attached (Some n) e = ltb-true n attached e

issued_holds : (d : Drives) (place : Place) → is_issued d place ≡ true → IsIssued d.attached d.issued place
issued_holds d place e =
    let a = and_parts _ (nat_lt place.sector SECTORS) e in
    let b = and_parts _ (nat_lt place.track TRACKS) a.0 in
    let c = and_parts _ (nat_lt place.drive d.attached) b.0 in
    let f = and_parts (nat_le 1 place.number) (nat_le place.number d.issued) c.0 in
    record {
      first = leb-true 1 place.number f.0;
      last = leb-true place.number d.issued f.1;
      drive = ltb-true place.drive d.attached c.1;
      track = ltb-true place.track TRACKS b.1;
      sector = ltb-true place.sector SECTORS a.1;
    }

follow_holds : (earlier later : Place) → may_follow earlier later ≡ true → Follows earlier later
follow_holds earlier later e =
    let two = and_parts (nat_lt earlier.number later.number) (not (is_at later.drive later.track later.sector earlier)) e in
    record { number = ltb-true earlier.number later.number two.0; elsewhere = not-true _ two.1 }

order_holds : (places : List Place) → are_in_order places ≡ true → AllPairs Follows places
order_holds [] e = λ i j d less inside. absurd (omega (arith, inside))
order_holds (place ∷ places) e =
    let two = and_parts (list_all (may_follow place) places) (are_in_order places) e in
    AllPairs-cons Follows place places
    (list_holds (may_follow place) (Follows place) (follow_holds place) places two.0) (order_holds places two.1)

pub controller_holds : (d : Drives) → length d.drives ≡ DRIVES
    → IfSome d.current (λ s. length s.bytes ≡ SECTOR_BYTES) → is_controller d ≡ true → IsDrives d
unfolding is_controller
controller_holds d four long e =
    let a = and_parts _ (nat_le d.issued GREATEST_NUMBER) e in
    let b = and_parts _ (are_outstanding d) a.0 in
    let c = and_parts _ (has_current d) b.0 in
    let f = and_parts _ (are_drives d) c.0 in
    let g = and_parts (has_drives d.attached) (selects_attached d) f.0 in
    let some = and_parts (nat_le 1 d.attached) (nat_le d.attached DRIVES) g.0 in
    let ds = and_parts (list_all is_on_track d.drives) (list_all is_at_boot (drop d.attached d.drives)) f.1 in
    let o = and_parts _ (are_in_order d.outstanding) b.1 in
    let p = and_parts (nat_le (length d.outstanding) OUTSTANDING) (list_all (is_issued d) d.outstanding) o.0 in
    record {
      some = leb-true 1 d.attached some.0;
      few = leb-true d.attached DRIVES some.1;
      selected = selected_holds d.attached d.selected g.1;
      drives = record {
        count = four;
        tracks = list_holds is_on_track (λ (drive : Drive). drive.track < TRACKS)
            (λ drive e. ltb-true drive.track TRACKS e) d.drives ds.0;
        unattached = list_holds is_at_boot (λ (drive : Drive). drive ≡ drive_at_boot) boot_holds
            (drop d.attached d.drives) ds.1;
      };
      current = current_holds d d.current long c.1;
      outstanding = record {
        few = leb-true (length d.outstanding) OUTSTANDING p.0;
        each = list_holds (is_issued d) (IsIssued d.attached d.issued) (issued_holds d) d.outstanding p.1;
        order = order_holds d.outstanding o.1;
      };
      issued = leb-true d.issued GREATEST_NUMBER a.1;
    }
