-- The image of a disk, record by record.
use Rattle.std.proofs.Common.{◌≡◌, ℕ, zero, suc, ◌+◌, ◌*◌, ◌<◌, List, [], ◌∷◌, ◌++◌, length, take, drop, refl, sym, ◌∙◌, ap, arith, append_assoc, length-append}
use Rattle.std.specs.Prelude.{slice_set}
use Rattle.std.proofs.lemmas.List.{drop_at}
use Rattle.std.proofs.lemmas.Option.{same_Some}
use Rattle.std.proofs.Math.Seq.{take-append-add, drop-append-add}
use Rattle.disk_file.specs.Sectors.{with_sector}
use Rattle.disk_file.specs.Kept.{bytes_of, AreWhole}
use Rattle.shared_disk.specs.declared.store.Record.{Record}

pub set_record : (xs : List Record) (p : ℕ) (y : Record) → AreWhole xs → p < length xs → with_sector (bytes_of xs) p y.bytes ≡ bytes_of (slice_set xs p y)
set_record [] p y whole there = absurd (omega arith)
set_record (z ∷ zs) zero y whole there = ap (λ (l : List ℕ). y.bytes ++ l) (drop_at z.bytes (bytes_of zs) 137 (whole 0 z refl))
set_record (z ∷ zs) (suc p) y whole there =
    let size : length z.bytes ≡ 137 = whole 0 z refl in
    let rest = bytes_of zs in
    let at : 137 * suc p ≡ length z.bytes + 137 * p = omega (arith, size) in
    let after : 137 * suc p + 137 ≡ length z.bytes + (137 * p + 137) = omega (arith, size) in
    let front : take (137 * suc p) (z.bytes ++ rest) ≡ z.bytes ++ take (137 * p) rest = ap (λ (k : ℕ). take k (z.bytes ++ rest)) at ∙ take-append-add z.bytes rest (137 * p) in
    let back : drop (137 * suc p + 137) (z.bytes ++ rest) ≡ drop (137 * p + 137) rest = ap (λ (k : ℕ). drop k (z.bytes ++ rest)) after ∙ drop-append-add z.bytes rest (137 * p + 137) in
    ap (λ (l : List ℕ). l ++ y.bytes ++ drop (137 * suc p + 137) (z.bytes ++ rest)) front
    ∙ ap (λ (l : List ℕ). (z.bytes ++ take (137 * p) rest) ++ y.bytes ++ l) back
    ∙ ap (λ (l : List ℕ). l ++ drop (137 * p + 137) rest) (append_assoc z.bytes (take (137 * p) rest) y.bytes)
    ∙ append_assoc z.bytes (take (137 * p) rest ++ y.bytes) (drop (137 * p + 137) rest)
    ∙ ap (λ (l : List ℕ). z.bytes ++ l) (set_record zs p y (λ i r is. whole (suc i) r is) (omega (arith, there)))

pub set_whole : (xs : List Record) (p : ℕ) (y : Record) → AreWhole xs → length y.bytes ≡ 137 → AreWhole (slice_set xs p y)
set_whole [] p y whole size i r is = absurd (cc)
set_whole (z ∷ zs) zero y whole size zero r is = let same : y ≡ r = same_Some _ _ is in ap (λ (x : Record). length x.bytes) (sym same) ∙ size
set_whole (z ∷ zs) zero y whole size (suc i) r is = whole (suc i) r is
set_whole (z ∷ zs) (suc p) y whole size zero r is = whole zero r is
set_whole (z ∷ zs) (suc p) y whole size (suc i) r is = set_whole zs p y (λ j q at. whole (suc j) q at) size i r is

pub set_length : (xs : List Record) (p : ℕ) (y : Record) → length (slice_set xs p y) ≡ length xs
set_length [] p y = refl
set_length (z ∷ zs) zero y = refl
set_length (z ∷ zs) (suc p) y = ap suc (set_length zs p y)

pub push_record : (xs : List Record) (r : Record) (rest after image : List ℕ) → bytes_of xs ++ rest ≡ image → rest ≡ r.bytes ++ after → bytes_of (xs ++ r ∷ []) ++ after ≡ image
push_record [] r rest after image read is = append_assoc r.bytes [] after ∙ sym is ∙ read
push_record (x ∷ xs) r rest after image read is =
    append_assoc x.bytes (bytes_of (xs ++ r ∷ [])) after
    ∙ ap (λ (l : List ℕ). x.bytes ++ l) (push_record xs r rest after (bytes_of xs ++ rest) refl is)
    ∙ sym (append_assoc x.bytes (bytes_of xs) rest) ∙ read

pub push_whole : (xs : List Record) (r : Record) → AreWhole xs → length r.bytes ≡ 137 → AreWhole (xs ++ r ∷ [])
push_whole [] r whole size zero q is = let same : r ≡ q = same_Some _ _ is in ap (λ (x : Record). length x.bytes) (sym same) ∙ size
push_whole [] r whole size (suc i) q is = absurd (cc)
push_whole (x ∷ xs) r whole size zero q is = whole zero q is
push_whole (x ∷ xs) r whole size (suc i) q is = push_whole xs r (λ j p at. whole (suc j) p at) size i q is

pub length_bytes : (xs : List Record) → AreWhole xs → length (bytes_of xs) ≡ 137 * length xs
length_bytes [] whole = refl
length_bytes (x ∷ xs) whole = omega (arith, length-append x.bytes (bytes_of xs), whole 0 x refl, length_bytes xs (λ i r is. whole (suc i) r is))
