-- What is written is read back, and what is read was written so. Both go kind by kind, over what follows the tag and
-- the count, which are the same for all kinds. So no two entries share a spelling.
use Rattle.std.proofs.Common.{◌≡◌, ℕ, zero, suc, ◌^◌, ◌<◌, ◌≤◌, false, cond, eqb, ltb, List, [], ◌∷◌, ◌++◌, length, Option, Some, None, refl, sym, ap, subst, ◌∙◌, arith}
use Rattle.std.proofs.lemmas.Bool.{eqb-true, eqb-false, ne_eqb, ltb-false, le-ltb}
use Rattle.std.proofs.lemmas.List.{nil_from_length}
use Rattle.std.proofs.lemmas.Option.{same_Some, none-some}
use Rattle.std.specs.Prelude.{IfOk}
use Rattle.std.specs.Option.{ok_or}
use Rattle.byteorder.specs.Endian.{big_bytes}
use Rattle.i8080_words.specs.declared.refusal.Fault.TheVariants.{Malformed}
use Rattle.log_entry.specs.declared.entry.Entry.{Entry}
use Rattle.log_entry.specs.declared.entry.Entry.TheVariants.{Mark, Rx, Sent, Sector, Written, Read}
use Rattle.log_entry.specs.Laws.{ReadsAgain, OneSpelling, OneMeaning}
use Rattle.log_entry.specs.Numbers.{◌>>=◌, IsBytes, number_from}
use Rattle.log_entry.specs.Spelling.{spelling, IsEntry, mark_at, rx_at, sent_at, sector_at, written_at, read_at, fields_at, entry_at}
use Rattle.log_entry.proofs.NumberLaws.{number_takes, number_again}
use Rattle.log_entry.proofs.ReadingLaws.{IsBytes-rest, first_read, not_refused, admitted}

-- a number that was read, and the bytes after it
abbrev Number : Type 0
Number = ℕ × List ℕ

-- what follows the number of a sector, of a read, and of a write
abbrev sector_of : ℕ → ℕ → ℕ → Number → Option Entry
sector_of count drive sector number =
    cond (eqb (length number.1) 137) (Some (Sector count drive sector number.0 number.1)) None

abbrev read_of : ℕ → ℕ → ℕ → Number → Option Entry
read_of count drive sector number =
    cond (eqb (length number.1) 0) (Some (Read count drive sector number.0)) None

abbrev written_of : ℕ → Number → Option Entry
written_of count number =
    cond (eqb number.0 0) None (cond (eqb (length number.1) 0) (Some (Written count number.0)) None)

-- ---- what is written is read back

-- the count follows every tag
behind_tag : (tag count : ℕ) (fields : List ℕ) → count < 2 ^ 62
    → entry_at (tag ∷ big_bytes 8 count ++ fields) ≡ fields_at tag count fields
unfolding entry_at
behind_tag tag count fields lt =
    ap (λ (o : Option Number). o >>= λ read. fields_at tag read.0 read.1) (number_again count fields lt)

pub entry_again : ReadsAgain
unfolding fields_at mark_at rx_at sent_at sector_at written_at read_at
entry_again (Mark count) fits = behind_tag 0 count [] fits
entry_again (Rx count port byte) fits =
    let is_port : ltb 1 port ≡ false = le-ltb _ _ (omega arith) in
    behind_tag 1 count (port ∷ byte ∷ []) fits.0 ∙ rw is_port refl
entry_again (Sent count port) fits =
    let is_port : ltb 1 port ≡ false = le-ltb _ _ (omega arith) in
    behind_tag 2 count (port ∷ []) fits.0 ∙ rw is_port refl
entry_again (Sector count drive sector number bytes) fits =
    let is_drive : ltb 3 drive ≡ false = le-ltb _ _ (omega arith) in
    let is_sector : ltb 31 sector ≡ false = le-ltb _ _ (omega arith) in
    let again = number_again number bytes fits.3 in
    behind_tag 3 count (drive ∷ sector ∷ big_bytes 8 number ++ bytes) fits.0
    ∙ rw (is_drive, is_sector, again, fits.4) refl
entry_again (Written count number) fits =
    let again = number_again number [] fits.2 in
    let above : eqb number 0 ≡ false = ne_eqb number 0 (λ z. omega (arith, fits.1)) in
    behind_tag 4 count (big_bytes 8 number) fits.0
    ∙ ap (λ (o : Option Number). o >>= written_of count) again ∙ rw above refl
entry_again (Read count drive sector number) fits =
    let is_drive : ltb 3 drive ≡ false = le-ltb _ _ (omega arith) in
    let is_sector : ltb 31 sector ≡ false = le-ltb _ _ (omega arith) in
    let again = number_again number [] fits.3 in
    behind_tag 5 count (drive ∷ sector ∷ big_bytes 8 number) fits.0
    ∙ rw (is_drive, is_sector) (ap (λ (o : Option Number). o >>= read_of count drive sector) again)

-- ---- what is read was written so

-- the entry has these fields after its tag and its count
abbrev HasFields : ℕ → ℕ → List ℕ → Entry → Type 0
HasFields tag count bytes e = (count < 2 ^ 62 → IsEntry e) × (tag ∷ big_bytes 8 count ++ bytes ≡ spelling e)

-- the same bytes after the same tag and count
same_fields : (tag count : ℕ) (bytes others : List ℕ) → bytes ≡ others
    → tag ∷ big_bytes 8 count ++ bytes ≡ tag ∷ big_bytes 8 count ++ others
same_fields tag count bytes others same = ap (λ (bs : List ℕ). tag ∷ big_bytes 8 count ++ bs) same

mark_takes : (count : ℕ) (bytes : List ℕ) (e : Entry) → mark_at count bytes ≡ Some e → HasFields 0 count bytes e
unfolding mark_at
mark_takes count bytes e read =
    let test = admitted (eqb (length bytes) 0) (Mark count) e read in
    let nothing : bytes ≡ [] = nil_from_length bytes (eqb-true _ _ test.0) in
    subst (HasFields 0 count bytes) test.1 (λ lt. lt, same_fields 0 count bytes [] nothing)

rx_takes : (count : ℕ) (bytes : List ℕ) (e : Entry) → IsBytes bytes → rx_at count bytes ≡ Some e
    → HasFields 1 count bytes e
unfolding rx_at
rx_takes count [] e are_bytes read = absurd cc
rx_takes count (port ∷ []) e are_bytes read = absurd cc
rx_takes count (port ∷ byte ∷ []) e are_bytes read =
    let test = not_refused (ltb 1 port) (Some (Rx count port byte)) e read in
    let is_port : port ≤ 1 = ltb-false _ _ test.0 in
    let is_byte : byte < 256 = are_bytes 1 in
    subst (HasFields 1 count (port ∷ byte ∷ [])) (same_Some _ _ test.1) (λ lt. (lt, omega arith, is_byte), refl)
rx_takes count (port ∷ byte ∷ x ∷ xs) e are_bytes read = absurd cc

sent_takes : (count : ℕ) (bytes : List ℕ) (e : Entry) → sent_at count bytes ≡ Some e → HasFields 2 count bytes e
unfolding sent_at
sent_takes count [] e read = absurd cc
sent_takes count (port ∷ []) e read =
    let test = not_refused (ltb 1 port) (Some (Sent count port)) e read in
    let is_port : port ≤ 1 = ltb-false _ _ test.0 in
    subst (HasFields 2 count (port ∷ [])) (same_Some _ _ test.1) (λ lt. (lt, omega arith), refl)
sent_takes count (port ∷ x ∷ xs) e read = absurd cc

sector_takes : (count : ℕ) (bytes : List ℕ) (e : Entry) → IsBytes bytes → sector_at count bytes ≡ Some e
    → HasFields 3 count bytes e
unfolding sector_at
sector_takes count [] e are_bytes read = absurd cc
sector_takes count (drive ∷ []) e are_bytes read = absurd cc
sector_takes count (drive ∷ sector ∷ bytes) e are_bytes read =
    let rest_bytes = IsBytes-rest sector bytes (IsBytes-rest drive (sector ∷ bytes) are_bytes) in
    let drive_test = not_refused (ltb 3 drive) _ e read in
    let sector_test = not_refused (ltb 31 sector) _ e drive_test.1 in
    let number = first_read (number_from bytes) (sector_of count drive sector) e sector_test.1 in
    let taken = number_takes bytes number.0 rest_bytes number.1 in
    let length_test =
    admitted (eqb (length number.0.1) 137) (Sector count drive sector number.0.0 number.0.1) e number.2
    in
    let is_drive : drive ≤ 3 = ltb-false _ _ drive_test.0 in
    let is_sector : sector ≤ 31 = ltb-false _ _ sector_test.0 in
    let whole = eqb-true _ _ length_test.0 in
    let spelled = ap (λ (bs : List ℕ). drive ∷ sector ∷ bs) taken.parts in
    subst (HasFields 3 count (drive ∷ sector ∷ bytes)) length_test.1
    (λ lt. (lt, omega arith, omega arith, taken.below, whole, taken.are_bytes), same_fields 3 count _ _ spelled)

written_takes : (count : ℕ) (bytes : List ℕ) (e : Entry) → IsBytes bytes → written_at count bytes ≡ Some e
    → HasFields 4 count bytes e
unfolding written_at
written_takes count bytes e are_bytes read =
    let number = first_read (number_from bytes) (written_of count) e read in
    let taken = number_takes bytes number.0 are_bytes number.1 in
    let zero_test = not_refused (eqb number.0.0 0) _ e number.2 in
    let end_test = admitted (eqb (length number.0.1) 0) (Written count number.0.0) e zero_test.1 in
    let above : number.0.0 ≡ 0 → ⊥ = eqb-false _ _ zero_test.0 in
    let nothing : number.0.1 ≡ [] = nil_from_length number.0.1 (eqb-true _ _ end_test.0) in
    let spelled = taken.parts ∙ ap (λ (bs : List ℕ). big_bytes 8 number.0.0 ++ bs) nothing in
    subst (HasFields 4 count bytes) end_test.1
    (λ lt. (lt, omega arith, taken.below), same_fields 4 count bytes (big_bytes 8 number.0.0) spelled)

read_takes : (count : ℕ) (bytes : List ℕ) (e : Entry) → IsBytes bytes → read_at count bytes ≡ Some e
    → HasFields 5 count bytes e
unfolding read_at
read_takes count [] e are_bytes read = absurd cc
read_takes count (drive ∷ []) e are_bytes read = absurd cc
read_takes count (drive ∷ sector ∷ bytes) e are_bytes read =
    let rest_bytes = IsBytes-rest sector bytes (IsBytes-rest drive (sector ∷ bytes) are_bytes) in
    let drive_test = not_refused (ltb 3 drive) _ e read in
    let sector_test = not_refused (ltb 31 sector) _ e drive_test.1 in
    let number = first_read (number_from bytes) (read_of count drive sector) e sector_test.1 in
    let taken = number_takes bytes number.0 rest_bytes number.1 in
    let end_test = admitted (eqb (length number.0.1) 0) (Read count drive sector number.0.0) e number.2 in
    let is_drive : drive ≤ 3 = ltb-false _ _ drive_test.0 in
    let is_sector : sector ≤ 31 = ltb-false _ _ sector_test.0 in
    let nothing : number.0.1 ≡ [] = nil_from_length number.0.1 (eqb-true _ _ end_test.0) in
    let only = taken.parts ∙ ap (λ (bs : List ℕ). big_bytes 8 number.0.0 ++ bs) nothing in
    let spelled = ap (λ (bs : List ℕ). drive ∷ sector ∷ bs) only in
    subst (HasFields 5 count (drive ∷ sector ∷ bytes)) end_test.1
    (λ lt. (lt, omega arith, omega arith, taken.below), same_fields 5 count _ _ spelled)

other_tag : (tag count : ℕ) (bytes : List ℕ) → 5 < tag → fields_at tag count bytes ≡ None
unfolding fields_at
other_tag tag count bytes lt =
    let other : (k : ℕ) → k ≤ 5 → eqb tag k ≡ false = λ k le. ne_eqb tag k (λ z. omega arith) in
    rw (other 0 (omega arith), other 1 (omega arith), other 2 (omega arith), other 3 (omega arith)) (
    rw (other 4 (omega arith), other 5 (omega arith)) refl
    )

fields_take : (tag count : ℕ) (bytes : List ℕ) (e : Entry) → IsBytes bytes → fields_at tag count bytes ≡ Some e
    → HasFields tag count bytes e
unfolding fields_at
fields_take zero count bytes e are_bytes read = mark_takes count bytes e read
fields_take (suc zero) count bytes e are_bytes read = rx_takes count bytes e are_bytes read
fields_take (suc (suc zero)) count bytes e are_bytes read = sent_takes count bytes e read
fields_take (suc (suc (suc zero))) count bytes e are_bytes read = sector_takes count bytes e are_bytes read
fields_take (suc (suc (suc (suc zero)))) count bytes e are_bytes read = written_takes count bytes e are_bytes read
fields_take (suc (suc (suc (suc (suc zero))))) count bytes e are_bytes read = read_takes count bytes e are_bytes read
fields_take (suc (suc (suc (suc (suc (suc n)))))) count bytes e are_bytes read =
    let tag = suc (suc (suc (suc (suc (suc n))))) in
    absurd (none-some e (sym (other_tag tag count bytes (omega arith)) ∙ read))

pub entry_takes : OneSpelling
unfolding entry_at
entry_takes [] e are_bytes read = absurd cc
entry_takes (tag ∷ bytes) e are_bytes read =
    let count = first_read (number_from bytes) (λ count. fields_at tag count.0 count.1) e read in
    let taken = number_takes bytes count.0 (IsBytes-rest tag bytes are_bytes) count.1 in
    let fields = fields_take tag count.0.0 count.0.1 e taken.are_bytes count.2 in
    (fields.0 taken.below, ap (λ (bs : List ℕ). tag ∷ bs) taken.parts ∙ fields.1)

pub one_meaning : OneMeaning
one_meaning e other fits other_fits same =
    same_Some _ _ (sym (entry_again e fits) ∙ ap entry_at same ∙ entry_again other other_fits)

-- ---- the clauses of `read`

pub is_found : (bytes : List ℕ) (o : Option Entry) → IsBytes bytes → o ≡ entry_at bytes
    → IfOk (ok_or o Malformed) (λ e. IsEntry e × (bytes ≡ spelling e))
is_found bytes None are_bytes read = tt
is_found bytes (Some e) are_bytes read = entry_takes bytes e are_bytes (sym read)

pub is_only : (bytes : List ℕ) (e : Entry) → IsEntry e → bytes ≡ spelling e → entry_at bytes ≡ Some e
is_only bytes e fits same = ap entry_at same ∙ entry_again e fits
