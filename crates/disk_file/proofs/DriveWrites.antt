-- What a read and a write of a disk of several drives answer, by the file of the sector's drive; and that a write leaves
-- the other files.
use Rattle.std.proofs.Common.{◌≡◌, ℕ, zero, suc, ◌<◌, ◌≤◌, All, List, [], ◌∷◌, length, Option, Some, None, refl, sym, ap, ◌∙◌, subst, arith}
use Rattle.std.specs.Prelude.{if◌then◌else◌, is_some, IsSome, slice_get, slice_set, slice_index_or}
use Rattle.std.proofs.lemmas.Option.{same_Some, slice_get-get_or, slice_get_within}
use Rattle.disk_dcdd.specs.declared.address.SectorAddress.{SectorAddress}
use Rattle.i8080_words.specs.declared.refusal.Fault.TheVariants.{DeviceFault, Unknown}
use Rattle.shared_disk.specs.Records.{IsThere, refusal_at}
use Rattle.shared_disk.specs.declared.store.Record.{Record}
use Rattle.disk_file.specs.Device.{LeavesOnly}
use Rattle.disk_file.specs.Drives.{IsDrive, IsOnDisk, OnlyDrive, WritesDrive, all_records, in_drive}
use Rattle.disk_file.specs.Kept.{StandsFor, bytes_of, pending_in}
use Rattle.disk_file.specs.declared.kept.FileRecords.{FileRecords}
use Rattle.disk_file.proofs.Drives.{at_drive, at_none}

-- an item within a list
pub found : {X : Type 0} (xs : List X) (i : ℕ) (x : X) → i < length xs → x ≡ slice_index_or xs i x → slice_get xs i ≡ Some x
found xs i x lt is = slice_get-get_or xs i x lt ∙ ap Some (sym is)

get_other : {X : Type 0} (xs : List X) (i j : ℕ) (x : X) → (j ≡ i → ⊥) → slice_get (slice_set xs i x) j ≡ slice_get xs j
get_other [] i j x other = refl
get_other (y ∷ xs) zero zero x other = absurd (other refl)
get_other (y ∷ xs) zero (suc j) x other = refl
get_other (y ∷ xs) (suc i) zero x other = refl
get_other (y ∷ xs) (suc i) (suc j) x other = get_other xs i j x (λ same. other (ap suc same))

get_same : {X : Type 0} (xs : List X) (i : ℕ) (x y : X) → slice_get xs i ≡ Some y → slice_get (slice_set xs i x) i ≡ Some x
get_same [] i x y is = absurd (cc)
get_same (z ∷ xs) zero x y is = refl
get_same (z ∷ xs) (suc i) x y is = get_same xs i x y is

module _ {D : Type 0} (drives : List (FileRecords D)) (are : All IsDrive drives) (a : SectorAddress) where
  pub refused_none : slice_get drives a.drive ≡ None → Unknown ≡ refusal_at (all_records drives) a
  refused_none is = sym (ap (λ (r : Option Record). if is_some r then DeviceFault else Unknown) (at_none drives are a is))

  pub refused_at : (k : FileRecords D) → slice_get drives a.drive ≡ Some k → refusal_at k.records.items (in_drive a) ≡ refusal_at (all_records drives) a
  refused_at k is = sym (ap (λ (r : Option Record). if is_some r then DeviceFault else Unknown) (at_drive drives are a k is))

  pub there_at : (k : FileRecords D) → slice_get drives a.drive ≡ Some k → IsThere k.records.items (in_drive a) → IsThere (all_records drives) a
  there_at k is there = subst (λ (r : Option Record). IsSome r) (sym (at_drive drives are a k is)) there

-- the other files
pub only_drive : {D : Type 0} (drives : List (FileRecords D)) (a : SectorAddress) (new : FileRecords D) → OnlyDrive a drives (slice_set drives a.drive new)
only_drive drives a new i other = get_other drives a.drive i new other

-- the file of the drive
pub writes_drive : {D : Type 0} (moment : D → ℕ) (left_since : D → ℕ → List ℕ → Type 0) (drives : List (FileRecords D)) (a : SectorAddress) (bytes : List ℕ) (k new : FileRecords D)
    → slice_get drives a.drive ≡ Some k
    → LeavesOnly moment left_since k.device new.device (StandsFor (length k.records.items) (bytes_of k.records.items) (pending_in k.pending (in_drive a) bytes))
    → WritesDrive moment left_since a bytes drives (slice_set drives a.drive new)
writes_drive {D} moment left_since drives a bytes k new is run old after was became =
    let same_old : k ≡ old = same_Some k old (sym is ∙ was) in
    let same_new : new ≡ after = same_Some new after (sym (get_same drives a.drive new k is) ∙ became) in
    let Leaves : FileRecords D → FileRecords D → Type 0 = λ o n. LeavesOnly moment left_since o.device n.device (StandsFor (length o.records.items) (bytes_of o.records.items) (pending_in o.pending (in_drive a) bytes)) in
    subst (λ (n : FileRecords D). Leaves old n) same_new (subst (λ (o : FileRecords D). Leaves o new) same_old run)

pub on_disk : {D : Type 0} (drives : List (FileRecords D)) (a : SectorAddress) (k new : FileRecords D) → slice_get drives a.drive ≡ Some k → new.pending ≡ None
    → IsOnDisk a (slice_set drives a.drive new)
on_disk drives a k new is none after became =
    let same : after ≡ new = same_Some after new (sym became ∙ get_same drives a.drive new k is) in
    ap (λ (n : FileRecords _). n.pending) same ∙ none

-- there is no such drive
pub writes_none : {D : Type 0} (moment : D → ℕ) (left_since : D → ℕ → List ℕ → Type 0) (drives : List (FileRecords D)) (a : SectorAddress) (bytes : List ℕ) → length drives ≤ a.drive
    → WritesDrive moment left_since a bytes drives drives
writes_none moment left_since drives a bytes past old new was became =
    let within : a.drive < length drives = slice_get_within drives a.drive old was in
    absurd (omega (arith, within, past))
