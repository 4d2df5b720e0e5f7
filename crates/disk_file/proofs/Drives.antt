-- The records of a drive stand among those of all drives from 2,464 times its number on: so a sector is found, and put,
-- in the file of its drive.
use Rattle.std.proofs.Common.{◌≡◌, ◌⊎◌, inl, inr, ⊎_elim, ℕ, zero, suc, ◌+◌, ◌*◌, ◌<◌, Bool, true, false, ◌&&◌, All, List, [], ◌∷◌, ◌++◌, length, Option, Some, None, refl, sym, ap, ◌∙◌, subst, arith}
use Rattle.std.specs.Prelude.{nat_lt, if◌then◌else◌, slice_get, slice_set}
use Rattle.std.specs.Option.{option_and_then, option_map_or}
use Rattle.std.proofs.lemmas.Bool.{ltb-true}
use Rattle.std.proofs.lemmas.List.Elements.{All-head, All-tail}
use Rattle.std.proofs.lemmas.Option.{same_Some}
use Rattle.disk_dcdd.specs.Address.{index_of}
use Rattle.disk_dcdd.specs.declared.address.SectorAddress.{SectorAddress}
use Rattle.disk_dcdd.specs.declared.drive.TheConstants.{TRACKS}
use Rattle.disk_dcdd.specs.declared.sector.TheConstants.{SECTORS}
use Rattle.shared_disk.specs.Records.{HasWholeSectors, record_at, with_record}
use Rattle.shared_disk.specs.declared.store.Record.{Record}
use Rattle.disk_file.specs.Drives.{IsDrive, all_records, in_drive}
use Rattle.disk_file.specs.declared.kept.FileRecords.{FileRecords}

-- one list after another
get_front : {X : Type 0} (xs ys : List X) (i : ℕ) → i < length xs → slice_get (xs ++ ys) i ≡ slice_get xs i
get_front [] ys i lt = absurd (omega arith)
get_front (x ∷ xs) ys zero lt = refl
get_front (x ∷ xs) ys (suc i) lt = get_front xs ys i (omega arith)

get_back : {X : Type 0} (xs ys : List X) (n i : ℕ) → i ≡ length xs + n → slice_get (xs ++ ys) i ≡ slice_get ys n
get_back [] ys n i is = let e : i ≡ n = omega arith in ap (slice_get ys) e
get_back (x ∷ xs) ys n zero is = absurd (omega arith)
get_back (x ∷ xs) ys n (suc i) is = get_back xs ys n i (omega arith)

set_front : {X : Type 0} (xs ys : List X) (i : ℕ) (y : X) → i < length xs → slice_set (xs ++ ys) i y ≡ slice_set xs i y ++ ys
set_front [] ys i y lt = absurd (omega arith)
set_front (x ∷ xs) ys zero y lt = refl
set_front (x ∷ xs) ys (suc i) y lt = ap (λ (l : List _). x ∷ l) (set_front xs ys i y (omega arith))

set_back : {X : Type 0} (xs ys : List X) (n i : ℕ) (y : X) → i ≡ length xs + n → slice_set (xs ++ ys) i y ≡ xs ++ slice_set ys n y
set_back [] ys n i y is = let e : i ≡ n = omega arith in ap (λ (k : ℕ). slice_set ys k y) e
set_back (x ∷ xs) ys n zero y is = absurd (omega arith)
set_back (x ∷ xs) ys n (suc i) y is = ap (λ (l : List _). x ∷ l) (set_back xs ys n i y (omega arith))

module _ {D : Type 0} where
  -- by place
  get_drive : (drives : List (FileRecords D)) → All IsDrive drives → (d i : ℕ) (k : FileRecords D) → slice_get drives d ≡ Some k → i < 2464
      → slice_get (all_records drives) (d * 2464 + i) ≡ slice_get k.records.items i
  get_drive [] are d i k is lt = absurd (cc)
  get_drive (x ∷ xs) are zero i k is lt =
      let size : length x.records.items ≡ 2464 = (All-head IsDrive x xs are).size in
      let same : x ≡ k = same_Some x k is in
      let e : 0 * 2464 + i ≡ i = omega arith in
      ap (slice_get (x.records.items ++ all_records xs)) e
      ∙ get_front x.records.items (all_records xs) i (omega (arith, size, lt))
      ∙ ap (λ (y : FileRecords D). slice_get y.records.items i) same
  get_drive (x ∷ xs) are (suc d) i k is lt =
      let size : length x.records.items ≡ 2464 = (All-head IsDrive x xs are).size in
      get_back x.records.items (all_records xs) (d * 2464 + i) (suc d * 2464 + i) (omega (arith, size))
      ∙ get_drive xs (All-tail IsDrive x xs are) d i k is lt

  get_none : (drives : List (FileRecords D)) → All IsDrive drives → (d i : ℕ) → slice_get drives d ≡ None
      → slice_get (all_records drives) (d * 2464 + i) ≡ None
  get_none [] are d i is = refl
  get_none (x ∷ xs) are zero i is = absurd (cc)
  get_none (x ∷ xs) are (suc d) i is =
      let size : length x.records.items ≡ 2464 = (All-head IsDrive x xs are).size in
      get_back x.records.items (all_records xs) (d * 2464 + i) (suc d * 2464 + i) (omega (arith, size))
      ∙ get_none xs (All-tail IsDrive x xs are) d i is

  set_drive : (drives : List (FileRecords D)) → All IsDrive drives → (d i : ℕ) (k new : FileRecords D) (r : Record) → slice_get drives d ≡ Some k → i < 2464
      → new.records.items ≡ slice_set k.records.items i r
      → all_records (slice_set drives d new) ≡ slice_set (all_records drives) (d * 2464 + i) r
  set_drive [] are d i k new r is lt was = absurd (cc)
  set_drive (x ∷ xs) are zero i k new r is lt was =
      let size : length x.records.items ≡ 2464 = (All-head IsDrive x xs are).size in
      let same : k ≡ x = sym (same_Some x k is) in
      let e : i ≡ 0 * 2464 + i = omega arith in
      ap (λ (l : List Record). l ++ all_records xs) (was ∙ ap (λ (y : FileRecords D). slice_set y.records.items i r) same)
      ∙ sym (set_front x.records.items (all_records xs) i r (omega (arith, size, lt)))
      ∙ ap (λ (n : ℕ). slice_set (x.records.items ++ all_records xs) n r) e
  set_drive (x ∷ xs) are (suc d) i k new r is lt was =
      let size : length x.records.items ≡ 2464 = (All-head IsDrive x xs are).size in
      ap (λ (l : List Record). x.records.items ++ l) (set_drive xs (All-tail IsDrive x xs are) d i k new r is lt was)
      ∙ sym (set_back x.records.items (all_records xs) (d * 2464 + i) (suc d * 2464 + i) r (omega (arith, size)))

  -- a drive with the same records
  pub same_drive : (drives : List (FileRecords D)) (d : ℕ) (k new : FileRecords D) → slice_get drives d ≡ Some k → new.records.items ≡ k.records.items
      → all_records (slice_set drives d new) ≡ all_records drives
  same_drive [] d k new is was = refl
  same_drive (x ∷ xs) zero k new is was =
      let same : k ≡ x = sym (same_Some x k is) in
      ap (λ (l : List Record). l ++ all_records xs) (was ∙ ap (λ (y : FileRecords D). y.records.items) same)
  same_drive (x ∷ xs) (suc d) k new is was = ap (λ (l : List Record). x.records.items ++ l) (same_drive xs d k new is was)

-- where a sector stands, among all records and in the file of its drive
pub record Place (a : SectorAddress) : Type 0 where
  pub track : a.track < TRACKS
  pub sector : a.sector < SECTORS
  at : ℕ
  small : at < 2464
  all : index_of a ≡ Some (a.drive * 2464 + at)
  one : index_of (in_drive a) ≡ Some at

pub record Nowhere (a : SectorAddress) : Type 0 where
  pub all : index_of a ≡ None
  one : index_of (in_drive a) ≡ None

placed : (p q : Bool) (a : SectorAddress) → nat_lt a.track TRACKS ≡ p → nat_lt a.sector SECTORS ≡ q → Place a ⊎ Nowhere a
placed true true a t s =
    let e : nat_lt a.track TRACKS && nat_lt a.sector SECTORS ≡ true = ap (λ (b : Bool). b && nat_lt a.sector SECTORS) t ∙ s in
    let track : a.track < TRACKS = ltb-true _ _ t in
    let sector : a.sector < SECTORS = ltb-true _ _ s in
    let place = a.track * SECTORS + a.sector in
    let whole : ℕ → Bool → Option ℕ = λ i b. if b then Some i else None in
    inl (record {
      track = track;
      sector = sector;
      at = place;
      small = omega (arith, track, sector);
      all = ap (whole (a.drive * 2464 + a.track * SECTORS + a.sector)) e ∙ ap Some (omega arith);
      one = ap (whole (0 * 2464 + a.track * SECTORS + a.sector)) e ∙ ap Some (omega arith);
    })
placed true false a t s =
    let e : nat_lt a.track TRACKS && nat_lt a.sector SECTORS ≡ false = ap (λ (b : Bool). b && nat_lt a.sector SECTORS) t ∙ s in
    inr (record {
      all = ap (λ (b : Bool). if b then Some (a.drive * 2464 + a.track * SECTORS + a.sector) else None) e;
      one = ap (λ (b : Bool). if b then Some (0 * 2464 + a.track * SECTORS + a.sector) else None) e;
    })
placed false q a t s =
    let e : nat_lt a.track TRACKS && nat_lt a.sector SECTORS ≡ false = ap (λ (b : Bool). b && nat_lt a.sector SECTORS) t in
    inr (record {
      all = ap (λ (b : Bool). if b then Some (a.drive * 2464 + a.track * SECTORS + a.sector) else None) e;
      one = ap (λ (b : Bool). if b then Some (0 * 2464 + a.track * SECTORS + a.sector) else None) e;
    })

pub place_of : (a : SectorAddress) → Place a ⊎ Nowhere a
place_of a = placed (nat_lt a.track TRACKS) (nat_lt a.sector SECTORS) a refl refl

module _ {D : Type 0} (drives : List (FileRecords D)) (are : All IsDrive drives) (a : SectorAddress) where
  all : List Record
  all = all_records drives

  -- by address
  pub at_drive : (k : FileRecords D) → slice_get drives a.drive ≡ Some k → record_at (all_records drives) a ≡ record_at k.records.items (in_drive a)
  at_drive k is = ⊎_elim (λ (p : Place a). there p) (λ (n : Nowhere a). none n) (place_of a)
    where
      there : Place a → record_at (all_records drives) a ≡ record_at k.records.items (in_drive a)
      there p =
          ap (option_and_then (slice_get (all_records drives))) p.all
          ∙ get_drive drives are a.drive p.at k is p.small
          ∙ sym (ap (option_and_then (slice_get k.records.items)) p.one)

      none : Nowhere a → record_at (all_records drives) a ≡ record_at k.records.items (in_drive a)
      none n =
          ap (option_and_then (slice_get (all_records drives))) n.all
          ∙ sym (ap (option_and_then (slice_get k.records.items)) n.one)

  pub at_none : slice_get drives a.drive ≡ None → record_at (all_records drives) a ≡ None
  at_none is = ⊎_elim (λ (p : Place a). there p) (λ (n : Nowhere a). ap (option_and_then (slice_get (all_records drives))) n.all) (place_of a)
    where
      there : Place a → record_at (all_records drives) a ≡ None
      there p = ap (option_and_then (slice_get (all_records drives))) p.all ∙ get_none drives are a.drive p.at is

  pub with_drive : (k new : FileRecords D) (r : Record) → slice_get drives a.drive ≡ Some k
      → new.records.items ≡ with_record k.records.items (in_drive a) r
      → all_records (slice_set drives a.drive new) ≡ with_record (all_records drives) a r
  with_drive k new r is was = ⊎_elim (λ (p : Place a). there p) (λ (n : Nowhere a). none n) (place_of a)
    where
      there : Place a → all_records (slice_set drives a.drive new) ≡ with_record (all_records drives) a r
      there p =
          set_drive drives are a.drive p.at k new r is p.small
          (was ∙ ap (λ (i : Option ℕ). option_map_or (λ place. slice_set k.records.items place r) i k.records.items) p.one)
          ∙ sym (ap (λ (i : Option ℕ). option_map_or (λ place. slice_set (all_records drives) place r) i (all_records drives)) p.all)

      none : Nowhere a → all_records (slice_set drives a.drive new) ≡ with_record (all_records drives) a r
      none n =
          same_drive drives a.drive k new is
          (was ∙ ap (λ (i : Option ℕ). option_map_or (λ place. slice_set k.records.items place r) i k.records.items) n.one)
          ∙ sym (ap (λ (i : Option ℕ). option_map_or (λ place. slice_set (all_records drives) place r) i (all_records drives)) n.all)

-- one of the drives
pub drive_at : {D : Type 0} (drives : List (FileRecords D)) → All IsDrive drives → (d : ℕ) (k : FileRecords D) → slice_get drives d ≡ Some k → IsDrive k
drive_at [] are d k is = absurd (cc)
drive_at (x ∷ xs) are zero k is = subst (λ (y : FileRecords _). IsDrive y) (same_Some x k is) (All-head IsDrive x xs are)
drive_at (x ∷ xs) are (suc d) k is = drive_at xs (All-tail IsDrive x xs are) d k is

-- each sector of them all is whole
pub all_whole : {D : Type 0} (drives : List (FileRecords D)) → All IsDrive drives → HasWholeSectors (all_records drives)
all_whole {D} drives are a r is = go (slice_get drives a.drive) refl
  where
    go : (k : Option (FileRecords D)) → slice_get drives a.drive ≡ k → length r.bytes ≡ 137
    go (Some k) found = (drive_at drives are a.drive k found).whole (in_drive a) r (sym (at_drive drives are a k found) ∙ is)
    go None found = let none : record_at (all_records drives) a ≡ None = at_none drives are a found in absurd (cc)
