-- A record put into a sector is read there, and every other sector keeps its own, since no two sectors share a place. A
-- new store has blank records at the places of its drives' sectors, and none past them.
use Rattle.std.proofs.Common.{◌≡◌, ℕ, zero, suc, ◌+◌, ◌*◌, ◌<◌, ◌≤◌, Bool, true, false, cond, ◌&&◌, List, [], ◌∷◌, length, replicate, Option, Some, None, refl, sym, ap, ◌∙◌, arith}
use Rattle.std.specs.Prelude.{◌≢◌, nat_lt, slice_get, slice_set}
use Rattle.std.specs.Option.{option_and_then, option_map_or}
use Rattle.std.proofs.lemmas.Bool.{ltb-true, ltb-false}
use Rattle.std.proofs.lemmas.List.{length-replicate, set_past}
use Rattle.std.proofs.lemmas.Option.{same_Some, slice_get_past}
pub use Rattle.disk_dcdd.proofs.Addresses.{same_address-is as is_same, same_address-other as is_other}
use Rattle.disk_dcdd.specs.Address.{has_sector, index_of}
use Rattle.disk_dcdd.specs.declared.address.SectorAddress.{SectorAddress}
use Rattle.disk_dcdd.specs.declared.address.TheConstants.{DRIVE_SECTORS}
use Rattle.disk_dcdd.specs.declared.drive.TheConstants.{TRACKS}
use Rattle.disk_dcdd.specs.declared.sector.TheConstants.{SECTORS}
use Rattle.shared_disk.specs.Records.{record_at, with_record, blank_record, unwritten}
use Rattle.shared_disk.specs.declared.store.Record.{Record}

address : ℕ → ℕ → ℕ → SectorAddress
address d t s = record { drive = d; track = t; sector = s }

one_address : (a b : SectorAddress) → a.drive ≡ b.drive → a.track ≡ b.track → a.sector ≡ b.sector → a ≡ b
unfolding address
one_address a b d t s =
    ap (λ x. address x a.track a.sector) d
    ∙ ap (λ x. address b.drive x a.sector) t
    ∙ ap (λ x. address b.drive b.track x) s

-- a sector with a place is on a track, and its place goes by drive, track and number
record HasPlace (a : SectorAddress) (place : ℕ) : Type 0 where
  track : a.track < TRACKS
  sector : a.sector < SECTORS
  is : a.drive * DRIVE_SECTORS + a.track * SECTORS + a.sector ≡ place

has_place-at : (p q : Bool) (a : SectorAddress) (place : ℕ) → nat_lt a.track TRACKS ≡ p → nat_lt a.sector SECTORS ≡ q
    → cond (p && q) (Some (a.drive * DRIVE_SECTORS + a.track * SECTORS + a.sector)) None ≡ Some place → HasPlace a place
has_place-at true true a place t s e =
    record { track = ltb-true _ _ t; sector = ltb-true _ _ s; is = same_Some _ _ e }
has_place-at true false a place t s e = absurd (cc)
has_place-at false q a place t s e = absurd (cc)

has_place : (a : SectorAddress) (place : ℕ) → index_of a ≡ Some place → HasPlace a place
has_place a place e = has_place-at (nat_lt a.track TRACKS) (nat_lt a.sector SECTORS) a place refl refl e

one_place : (a b : SectorAddress) (i j : ℕ) → index_of a ≡ Some i → index_of b ≡ Some j → i ≡ j → a ≡ b
one_place a b i j a_is b_is same =
    let p : HasPlace a i = has_place a i a_is in
    let q : HasPlace b j = has_place b j b_is in
    let a_track : a.track < TRACKS = p.track in
    let a_sector : a.sector < SECTORS = p.sector in
    let b_track : b.track < TRACKS = q.track in
    let b_sector : b.sector < SECTORS = q.sector in
    let places : a.drive * DRIVE_SECTORS + a.track * SECTORS + a.sector
    ≡ b.drive * DRIVE_SECTORS + b.track * SECTORS + b.sector =
    p.is ∙ same ∙ sym q.is in
    one_address a b (omega arith) (omega arith) (omega arith)

get-set_same : (xs : List Record) (i : ℕ) (x y : Record) → slice_get xs i ≡ Some y
    → slice_get (slice_set xs i x) i ≡ Some x
get-set_same [] i x y e = absurd (cc)
get-set_same (z ∷ zs) zero x y e = refl
get-set_same (z ∷ zs) (suc i) x y e = get-set_same zs i x y e

get-set_other : (xs : List Record) (i j : ℕ) (x : Record) → i ≢ j → slice_get (slice_set xs i x) j ≡ slice_get xs j
get-set_other [] i j x apart = refl
get-set_other (z ∷ zs) zero zero x apart = absurd (apart refl)
get-set_other (z ∷ zs) zero (suc j) x apart = refl
get-set_other (z ∷ zs) (suc i) zero x apart = refl
get-set_other (z ∷ zs) (suc i) (suc j) x apart = get-set_other zs i j x (λ e. apart (ap suc e))

past : (xs : List Record) (i : ℕ) → slice_get xs i ≡ None → length xs ≤ i
past [] i e = omega arith
past (z ∷ zs) zero e = absurd (cc)
past (z ∷ zs) (suc i) e = let p = past zs i e in omega arith

same-at : (i : Option ℕ) (records : List Record) (x y : Record) → option_and_then (slice_get records) i ≡ Some y
    → option_and_then (slice_get (option_map_or (λ place. slice_set records place x) i records)) i ≡ Some x
same-at None records x y e = absurd (cc)
same-at (Some i) records x y e = get-set_same records i x y e

-- a record put into a sector is read there
pub record_at-with_same : (records : List Record) (a : SectorAddress) (x y : Record) → record_at records a ≡ Some y
    → record_at (with_record records a x) a ≡ Some x
record_at-with_same records a x y e = same-at (index_of a) records x y e

other-at : (i j : Option ℕ) (records : List Record) (a b : SectorAddress) (x : Record)
    → index_of a ≡ i → index_of b ≡ j → a ≢ b
    → option_and_then (slice_get (option_map_or (λ place. slice_set records place x) i records)) j
    ≡ option_and_then (slice_get records) j
other-at None j records a b x a_is b_is apart = refl
other-at (Some i) None records a b x a_is b_is apart = refl
other-at (Some i) (Some j) records a b x a_is b_is apart =
    get-set_other records i j x (λ same. apart (one_place a b i j a_is b_is same))

-- every other sector keeps its record
pub record_at-with_other : (records : List Record) (a b : SectorAddress) (x : Record) → a ≢ b
    → record_at (with_record records a x) b ≡ record_at records b
record_at-with_other records a b x apart = other-at (index_of a) (index_of b) records a b x refl refl apart

none-at : (i : Option ℕ) (records : List Record) (x : Record) → option_and_then (slice_get records) i ≡ None
    → option_map_or (λ place. slice_set records place x) i records ≡ records
none-at None records x e = refl
none-at (Some i) records x e = set_past records i x (past records i e)

-- if there is no such sector, no record is put
pub takes_none : (records : List Record) (a : SectorAddress) (x : Record) → record_at records a ≡ None
    → with_record records a x ≡ records
takes_none records a x e = none-at (index_of a) records x e

get-replicate : (n i : ℕ) (x : Record) → i < n → slice_get (replicate n x) i ≡ Some x
get-replicate zero i x within = absurd (omega arith)
get-replicate (suc n) zero x within = refl
get-replicate (suc n) (suc i) x within = get-replicate n i x (omega arith)

blank-at : (p q r : Bool) (drives : ℕ) (a : SectorAddress) (x : Record)
    → nat_lt a.track TRACKS ≡ p → nat_lt a.sector SECTORS ≡ q
    → nat_lt a.drive drives ≡ r
    → option_and_then (slice_get (replicate (drives * DRIVE_SECTORS) x))
    (cond (p && q) (Some (a.drive * DRIVE_SECTORS + a.track * SECTORS + a.sector)) None)
    ≡ cond (p && q && r) (Some x) None
blank-at true true true drives a x t s d =
    let track : a.track < TRACKS = ltb-true _ _ t in
    let sector : a.sector < SECTORS = ltb-true _ _ s in
    let drive : a.drive < drives = ltb-true _ _ d in
    get-replicate (drives * DRIVE_SECTORS) (a.drive * DRIVE_SECTORS + a.track * SECTORS + a.sector) x (omega arith)
blank-at true true false drives a x t s d =
    let drive : drives ≤ a.drive = ltb-false _ _ d in
    slice_get_past (replicate (drives * DRIVE_SECTORS) x) (a.drive * DRIVE_SECTORS + a.track * SECTORS + a.sector)
    (rw (length-replicate (drives * DRIVE_SECTORS) x) (omega arith))
blank-at true false r drives a x t s d = refl
blank-at false q r drives a x t s d = refl

-- a new store has the sectors of its drives
pub unwritten_record : (drives : ℕ) (a : SectorAddress)
    → record_at (unwritten drives) a ≡ cond (has_sector drives a) (Some blank_record) None
unfolding unwritten
unwritten_record drives a =
    blank-at (nat_lt a.track TRACKS) (nat_lt a.sector SECTORS) (nat_lt a.drive drives) drives a blank_record
    refl refl refl
