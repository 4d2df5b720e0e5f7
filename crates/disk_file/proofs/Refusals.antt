-- Which sectors there are, and what a write of one may leave.
use Rattle.std.proofs.Common.{◌≡◌, ℕ, zero, suc, ◌≤◌, ◌<◌, Bool, true, false, List, [], ◌∷◌, length, Option, Some, None, refl, ◌∙◌, ap, arith, inl}
use Rattle.std.specs.Prelude.{slice_get, is_some, if◌then◌else◌}
use Rattle.std.specs.Option.{option_and_then, option_map_or}
use Rattle.i8080_words.specs.declared.refusal.Fault.TheVariants.{DeviceFault, Unknown}
use Rattle.disk_dcdd.specs.Address.{index_of}
use Rattle.disk_dcdd.specs.declared.address.SectorAddress.{SectorAddress}
use Rattle.shared_disk.specs.Records.{record_at, refusal_at}
use Rattle.shared_disk.specs.declared.store.Record.{Record}
use Rattle.disk_file.specs.Kept.{StandsFor, pending_with, pending_in}
use Rattle.disk_file.specs.declared.kept.PendingWrite.{PendingWrite}

within : (xs : List Record) (i : ℕ) → i < length xs → is_some (slice_get xs i) ≡ true
within [] i lt = absurd (omega arith)
within (x ∷ xs) zero lt = refl
within (x ∷ xs) (suc i) lt = within xs i (omega arith)

past : (xs : List Record) (i : ℕ) → length xs ≤ i → is_some (slice_get xs i) ≡ false
past [] i le = refl
past (x ∷ xs) zero le = absurd (omega arith)
past (x ∷ xs) (suc i) le = past xs i (omega arith)

module _ (records : List Record) (address : SectorAddress) where
  pub is_there : (p : ℕ) → index_of address ≡ Some p → p < length records → is_some (record_at records address) ≡ true
  is_there p is lt = ap (λ (i : Option ℕ). is_some (option_and_then (slice_get records) i)) is ∙ within records p lt

  pub is_past : (p : ℕ) → index_of address ≡ Some p → length records ≤ p → is_some (record_at records address) ≡ false
  is_past p is le = ap (λ (i : Option ℕ). is_some (option_and_then (slice_get records) i)) is ∙ past records p le

  pub refusal_there : (p : ℕ) → index_of address ≡ Some p → p < length records → refusal_at records address ≡ DeviceFault
  refusal_there p is lt = ap (λ (b : Bool). if b then DeviceFault else Unknown) (is_there p is lt)

  pub refusal_past : (p : ℕ) → index_of address ≡ Some p → length records ≤ p → refusal_at records address ≡ Unknown
  refusal_past p is le = ap (λ (b : Bool). if b then DeviceFault else Unknown) (is_past p is le)

pub with_more : (sectors : ℕ) (disk : List ℕ) (pending : Option PendingWrite) (place : ℕ) (bytes c : List ℕ) → StandsFor sectors disk pending c → StandsFor sectors disk (pending_with pending place bytes) c
with_more sectors disk None place bytes c is = inl is
with_more sectors disk (Some p) place bytes c is = is

pub in_more : (sectors : ℕ) (disk : List ℕ) (pending : Option PendingWrite) (address : SectorAddress) (bytes c : List ℕ) → StandsFor sectors disk pending c → StandsFor sectors disk (pending_in pending address bytes) c
in_more sectors disk pending address bytes c is = go (index_of address)
  where
    go : (i : Option ℕ) → StandsFor sectors disk (option_map_or (λ place. pending_with pending place bytes) i pending) c
    go None = is
    go (Some place) = with_more sectors disk pending place bytes c is
