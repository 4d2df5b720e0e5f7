-- The entries of a block are those that it spells. The tag of the first gives the length of its spelling, which is read
-- as that entry; the rest is at least one byte shorter, and is read likewise.
use Rattle.std.proofs.Common.{◌≡◌, ℕ, zero, suc, ◌≤◌, false, ltb, List, [], ◌∷◌, ◌++◌, length, Some, refl, ap, arith}
use Rattle.std.specs.List.{flat_map, AllByRecursion}
use Rattle.std.proofs.lemmas.Bool.{le-ltb}
use Rattle.std.proofs.lemmas.List.{take_at, drop_at, length-append}
use Rattle.std.proofs.lemmas.List.Concat.{flat_map-cons}
use Rattle.log_entry.specs.declared.entry.Entry.{Entry}
use Rattle.log_entry.specs.declared.entry.Entry.TheVariants.{Mark, Rx, Sent, Sector, Written, Read}
use Rattle.log_entry.specs.Spelling.{spelling, IsEntry}
use Rattle.log_entry.proofs.EntryLaws.{entry_again}
use Rattle.log_channel.specs.Block.{cut, first_of, entries_in, entries_of}

-- ---- the first entry

-- cut where its spelling ends, the front of a block is the entry
cut_again : (e : Entry) (rest : List ℕ) (size : ℕ) → IsEntry e → length (spelling e) ≡ size
    → cut (spelling e ++ rest) size ≡ Some (e, rest)
cut_again e rest size fits is_size =
    let block = spelling e ++ rest in
    let long : ltb (length block) size ≡ false = le-ltb _ _ (omega (arith, length-append (spelling e) rest)) in
    let front = take_at (spelling e) rest size is_size in
    let behind = drop_at (spelling e) rest size is_size in
    rw (long, front, behind, entry_again e fits) refl

pub first_again : (e : Entry) (rest : List ℕ) → IsEntry e → first_of (spelling e ++ rest) ≡ Some (e, rest)
unfolding first_of
first_again (Mark count) rest fits = cut_again (Mark count) rest 9 fits refl
first_again (Rx count port byte) rest fits = cut_again (Rx count port byte) rest 11 fits refl
first_again (Sent count port) rest fits = cut_again (Sent count port) rest 10 fits refl
first_again (Sector count drive sector number bytes) rest fits =
    let whole = fits.4 in
    cut_again (Sector count drive sector number bytes) rest 156 fits (omega arith)
first_again (Written count number) rest fits = cut_again (Written count number) rest 17 fits refl
first_again (Read count drive sector number) rest fits = cut_again (Read count drive sector number) rest 19 fits refl

-- ---- all entries

-- a spelling has at least one byte, so a block has at least as many bytes as entries
spelling_has_bytes : (e : Entry) → 1 ≤ length (spelling e)
spelling_has_bytes (Mark count) = omega arith
spelling_has_bytes (Rx count port byte) = omega arith
spelling_has_bytes (Sent count port) = omega arith
spelling_has_bytes (Sector count drive sector number bytes) = omega arith
spelling_has_bytes (Written count number) = omega arith
spelling_has_bytes (Read count drive sector number) = omega arith

enough_bytes : (es : List Entry) → length es ≤ length (flat_map spelling es)
enough_bytes [] = omega arith
enough_bytes (e ∷ es) =
    let rest = enough_bytes es in
    let first = spelling_has_bytes e in
    rw (flat_map-cons spelling e es) (omega (arith, length-append (spelling e) (flat_map spelling es)))

entries_again : (n : ℕ) (es : List Entry) → AllByRecursion IsEntry es → length es ≤ n
    → entries_in n (flat_map spelling es) ≡ es
unfolding entries_in first_of
entries_again zero [] valid le = refl
entries_again (suc n) [] valid le = refl
entries_again zero (e ∷ es) valid le = absurd (omega arith)
entries_again (suc n) (e ∷ es) valid le =
    let rest = entries_again n es valid.1 (omega arith) in
    let first = first_again e (flat_map spelling es) valid.0 in
    rw (flat_map-cons spelling e es, first) (ap (λ (xs : List Entry). e ∷ xs) rest)

pub entries_of_spelled : (es : List Entry) → AllByRecursion IsEntry es → entries_of (flat_map spelling es) ≡ es
unfolding entries_of
entries_of_spelled es valid = entries_again (length (flat_map spelling es)) es valid (enough_bytes es)
