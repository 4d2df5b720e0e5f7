-- The sectors of a disk at boot, put there one after another: the next one is read in its own sector, and every other
-- sector keeps what it had.
use Rattle.std.proofs.Common.{◌≡◌, ◌∙◌, ℕ, suc, ◌+◌, ◌<◌, Bool, true, false, cond, List, [], ◌∷◌, ◌++◌, length, replicate, take, get_or, Option, Some, None, Ok, Err, Result, ap, refl, subst, sym, arith}
use Rattle.std.specs.Prelude.{IsTrue, is_some}
use Rattle.std.proofs.lemmas.List.{length-replicate}
use Rattle.std.proofs.lemmas.Option.{same_Some}
use Rattle.std.proofs.Math.Seq.{take-suc}
use Rattle.disk_dcdd.specs.Address.{address_of, has_sector, same_address, bytes_with_all, bytes_with}
use Rattle.disk_dcdd.specs.declared.address.SectorAddress.{SectorAddress}
use Rattle.disk_dcdd.specs.declared.sector.SectorWrite.{SectorWrite}
use Rattle.disk_dcdd.specs.declared.sector.TheConstants.{SECTOR_BYTES}
use Rattle.i8080_words.specs.declared.refusal.Fault.{Fault}
use Rattle.i8080_words.specs.declared.refusal.Fault.TheVariants.{Unknown}
use Rattle.shared_disk.specs.Records.{HasDrives, HasWholeSectors, IsAtBoot, IsUnwritten, blank_record, boot_record, put_answer, record_at, unwritten, with_record}
use Rattle.shared_disk.specs.declared.store.Record.{Record}
use Rattle.shared_disk.proofs.RecordsBySector.{is_other, is_same, record_at-with_other, record_at-with_same, takes_none, unwritten_record}

-- what a sector has after these are put over zeros
abbrev after : List SectorWrite → SectorAddress → List ℕ
after sectors a = bytes_with_all sectors a (replicate SECTOR_BYTES 0)

after_more : (sectors : List SectorWrite) (w : SectorWrite) (a : SectorAddress) (bytes : List ℕ)
    → bytes_with_all (sectors ++ w ∷ []) a bytes ≡ bytes_with w a (bytes_with_all sectors a bytes)
after_more [] w a bytes = refl
after_more (v ∷ sectors) w a bytes = after_more sectors w a (bytes_with v a bytes)

-- a new store has what is left if no sector is put
pub nothing_put : (drives : ℕ) → IsAtBoot (unwritten drives) drives []
nothing_put drives a = unwritten_record drives a

put-at : (there same : Bool) (records : List Record) (w : SectorWrite) (a : SectorAddress) (bytes : List ℕ)
    → record_at records a ≡ cond there (Some (boot_record bytes)) None → same_address (address_of w) a ≡ same
    → record_at (with_record records (address_of w) (boot_record w.bytes)) a
    ≡ cond there (Some (boot_record (cond same w.bytes bytes))) None
put-at true true records w a bytes at e =
    subst (λ b. record_at (with_record records b (boot_record w.bytes)) a ≡ Some (boot_record w.bytes))
    (sym (is_same (address_of w) a e))
    (record_at-with_same records a (boot_record w.bytes) (boot_record bytes) at)
put-at false true records w a bytes at e =
    subst (λ b. record_at (with_record records b (boot_record w.bytes)) a ≡ None)
    (sym (is_same (address_of w) a e))
    (ap (λ rs. record_at rs a) (takes_none records a (boot_record w.bytes) at) ∙ at)
put-at there false records w a bytes at e =
    record_at-with_other records (address_of w) a (boot_record w.bytes) (is_other (address_of w) a e) ∙ at

put-one : (records : List Record) (drives : ℕ) (sectors : List SectorWrite) (w : SectorWrite)
    → IsAtBoot records drives sectors
    → IsAtBoot (with_record records (address_of w) (boot_record w.bytes)) drives (sectors ++ w ∷ [])
put-one records drives sectors w at a =
    subst (λ bytes. record_at (with_record records (address_of w) (boot_record w.bytes)) a
    ≡ cond (has_sector drives a) (Some (boot_record bytes)) None)
    (sym (after_more sectors w a (replicate SECTOR_BYTES 0)))
    (put-at (has_sector drives a) (same_address (address_of w) a) records w a (after sectors a) (at a) refl)

-- the next of the sectors is put
pub next_put : (records : List Record) (drives : ℕ) (sectors : List SectorWrite) (i : ℕ) (d : SectorWrite)
    → i < length sectors → IsAtBoot records drives (take i sectors)
    → IsAtBoot (with_record records (address_of (get_or sectors i d)) (boot_record (get_or sectors i d).bytes)) drives
    (take (i + 1) sectors)
next_put records drives sectors i d within at =
    let more : i + 1 ≡ suc i = omega arith in
    subst (λ list. IsAtBoot (with_record records (address_of (get_or sectors i d))
    (boot_record (get_or sectors i d).bytes)) drives list)
    (sym (ap (λ n. take n sectors) more ∙ take-suc sectors i d within))
    (put-one records drives (take i sectors) (get_or sectors i d) at)

there-at : (b : Bool) (r : Record) → IsTrue b → IsTrue (is_some (cond b (Some r) None))
there-at true r is = refl
there-at false r is = absurd (cc)

-- each drive has its sectors then
pub has_drives : (records : List Record) (drives : ℕ) (sectors : List SectorWrite) → IsAtBoot records drives sectors
    → HasDrives records drives
has_drives records drives sectors at a is =
    subst (λ o. IsTrue (is_some o)) (sym (at a)) (there-at (has_sector drives a) (boot_record (after sectors a)) is)

number-at : (b : Bool) (bytes : List ℕ) (r : Record) → cond b (Some (boot_record bytes)) None ≡ Some r → r.number ≡ 0
number-at true bytes r e = sym (ap (λ (x : Record). x.number) (same_Some _ _ e))
number-at false bytes r e = absurd (cc)

-- and none of them is written
pub is_unwritten : (records : List Record) (drives : ℕ) (sectors : List SectorWrite) → IsAtBoot records drives sectors
    → IsUnwritten records
is_unwritten records drives sectors at a r e =
    number-at (has_sector drives a) (after sectors a) r (sym (at a) ∙ e)

whole-at : (b : Bool) (r : Record) → cond b (Some blank_record) None ≡ Some r → length r.bytes ≡ SECTOR_BYTES
whole-at true r e = ap (λ (x : Record). length x.bytes) (sym (same_Some _ _ e)) ∙ length-replicate {A = ℕ} SECTOR_BYTES 0
whole-at false r e = absurd (cc)

-- each sector of a new store has all its bytes
pub new_is_whole : (drives : ℕ) → HasWholeSectors (unwritten drives)
new_is_whole drives a r at = whole-at (has_sector drives a) r (sym (unwritten_record drives a) ∙ at)

put_whole-at : (same : Bool) (o : Option Record) (records : List Record) (a b : SectorAddress) (content : Record)
    → HasWholeSectors records → length content.bytes ≡ SECTOR_BYTES → same_address a b ≡ same → record_at records a ≡ o
    → (r : Record) → record_at (with_record records a content) b ≡ Some r → length r.bytes ≡ SECTOR_BYTES
put_whole-at same None records a b content whole long e at r is =
    whole b r (sym (ap (λ rs. record_at rs b) (takes_none records a content at)) ∙ is)
put_whole-at true (Some x) records a b content whole long e at r is =
    let here : record_at (with_record records a content) b ≡ Some content =
    subst (λ c. record_at (with_record records a content) c ≡ Some content) (is_same a b e)
    (record_at-with_same records a content x at) in
    ap (λ (y : Record). length y.bytes) (same_Some r content (sym is ∙ here)) ∙ long
put_whole-at false (Some x) records a b content whole long e at r is =
    whole b r (sym (record_at-with_other records a b content (is_other a b e)) ∙ is)

-- and of a store into which a whole record is put
pub put_is_whole : (records : List Record) (a : SectorAddress) (content : Record) → length content.bytes ≡ SECTOR_BYTES
    → HasWholeSectors records → HasWholeSectors (with_record records a content)
put_is_whole records a content long whole b r is =
    put_whole-at (same_address a b) (record_at records a) records a b content whole long refl refl r is

-- the answer to a put, if the sector exists, and if it does not
abbrev answered : Bool → Result (Unit {0}) Fault
answered there = cond there (Ok tt) (Err Unknown)

one-at : (b : Bool) (r : Record) (o : Option Record) → o ≡ cond b (Some r) None → (u : Unit {0})
    → answered (is_some o) ≡ Ok u → IsTrue b
one-at true r o at u e = refl
one-at false r o at u e =
    absurd (let k : answered false ≡ Ok u = subst (λ p. answered (is_some p) ≡ Ok u) at e in (cc))

-- a sector that was put is on a drive
pub taken_there : (records : List Record) (drives : ℕ) (sectors : List SectorWrite) (a : SectorAddress) (u : Unit {0})
    → IsAtBoot records drives sectors → put_answer records a ≡ Ok u → IsTrue (has_sector drives a)
taken_there records drives sectors a u at e =
    one-at (has_sector drives a) (boot_record (after sectors a)) (record_at records a) (at a) u e
