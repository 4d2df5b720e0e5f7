-- What is written is read back, and what is read was written so. The tag and the generation come first in all kinds;
-- after them the index and its entry, or the number held, with the number replayed or without it. So no two packets
-- share a spelling.
use Rattle.std.proofs.Common.{◌≡◌, ℕ, ◌-◌, ◌^◌, ◌<◌, ◌≤◌, true, false, cond, eqb, ltb, List, [], ◌∷◌, ◌++◌, length, take, drop, Bool, Option, Some, None, refl, sym, ap, subst, ◌∙◌, arith, inl, inr, ◌⊎◌}
use Rattle.std.specs.Prelude.{IfOk}
use Rattle.std.specs.Option.{ok_or}
use Rattle.std.specs.Int.{w32, from_be_bytes}
use Rattle.std.proofs.lemmas.Bool.{eqb-true, eqb-false, ne_eqb, ltb-false, le-ltb}
use Rattle.std.proofs.lemmas.List.{nil_from_length, take-append-drop, length-take}
use Rattle.std.proofs.lemmas.Nat.{be_bytes_4, from_be_bytes-to_be_bytes_4}
use Rattle.std.proofs.lemmas.Option.{same_Some, none-some}
use Rattle.byteorder.specs.Endian.{big_bytes}
use Rattle.i8080_words.specs.declared.refusal.Fault.TheVariants.{Malformed}
use Rattle.log_entry.specs.declared.entry.Entry.{Entry}
use Rattle.log_entry.specs.Numbers.{◌>>=◌, IsBytes, generation_from, number_from}
use Rattle.log_entry.specs.Spelling.{spelling, IsEntry, entry_at}
use Rattle.log_entry.proofs.EntryLaws.{entry_takes, entry_again}
use Rattle.log_entry.proofs.GenerationLaws.{generation_again, generation_takes}
use Rattle.log_entry.proofs.NumberLaws.{number_takes, number_again}
use Rattle.log_entry.proofs.ReadingLaws.{IsBytes-rest, first_read, not_refused, admitted}
use Rattle.log_channel.specs.declared.packet.Packet.{Packet}
use Rattle.log_channel.specs.declared.packet.Packet.TheVariants.{Log, Ack}
use Rattle.log_channel.specs.Laws.{ReadsAgain, OneSpelling, OneMeaning}
use Rattle.log_channel.specs.Packet.{packet_bytes, IsPacket, log_at, ack_at, report_at, whole, packet_at}

-- a number that was read, and the bytes after it
abbrev Read : Type 0
Read = ℕ × List ℕ

-- what follows the index of a log packet, the number of an acknowledgement, and the generation of a packet of this tag
abbrev entry_behind : ℕ → Read → Option Packet
entry_behind generation index =
    cond (eqb index.0 (2 ^ 62 - 1)) None (entry_at index.1 >>= λ e. Some (Log generation index.0 e))

abbrev end_behind : ℕ → Read → Option Packet
end_behind generation held = whole (Ack generation held.0 None) held.1

-- what follows the number held where the number replayed comes next
abbrev replayed_behind : ℕ → Read → Read → Option Packet
replayed_behind generation held replayed =
    cond (ltb held.0 replayed.0) None (whole (Ack generation held.0 (Some replayed.0)) replayed.1)

abbrev held_behind : ℕ → Read → Option Packet
held_behind generation held = number_from held.1 >>= replayed_behind generation held

abbrev kind_behind : ℕ → Read → Option Packet
kind_behind tag generation =
    cond (eqb tag 0x4C) (log_at generation.0 generation.1)
    (cond (eqb tag 0x41) (ack_at generation.0 generation.1)
    (cond (eqb tag 0x42) (report_at generation.0 generation.1) None))

-- ---- what is written is read back

-- the generation follows every tag
behind_tag : (tag generation : ℕ) (rest : List ℕ) → 0 < generation → generation < 2 ^ 32
    → packet_at (tag ∷ big_bytes 4 generation ++ rest) ≡ kind_behind tag (generation, rest)
unfolding packet_at
behind_tag tag generation rest above below =
    ap (λ (o : Option Read). o >>= kind_behind tag) (generation_again generation rest above below)

log_again : (generation index : ℕ) (e : Entry) → index < 2 ^ 62 - 1 → IsEntry e
    → log_at generation (big_bytes 8 index ++ spelling e) ≡ Some (Log generation index e)
unfolding log_at
log_again generation index e lt fits =
    let other : eqb index (2 ^ 62 - 1) ≡ false = ne_eqb _ _ (λ z. omega arith) in
    let again = number_again index (spelling e) (omega arith) in
    ap (λ (o : Option Read). o >>= entry_behind generation) again ∙ rw (other, entry_again e fits) refl

ack_again : (generation held : ℕ) → held < 2 ^ 62
    → ack_at generation (big_bytes 8 held) ≡ Some (Ack generation held None)
unfolding ack_at
ack_again generation held lt = ap (λ (o : Option Read). o >>= end_behind generation) (number_again held [] lt)

report_again : (generation held replayed : ℕ) → held < 2 ^ 62 → replayed ≤ held
    → report_at generation (big_bytes 8 held ++ big_bytes 8 replayed) ≡ Some (Ack generation held (Some replayed))
unfolding report_at
report_again generation held replayed lt few =
    let first = number_again held (big_bytes 8 replayed) lt in
    let second = number_again replayed [] (omega arith) in
    let in_order : ltb held replayed ≡ false = le-ltb held replayed few in
    ap (λ (o : Option Read). o >>= held_behind generation) first
    ∙ ap (λ (o : Option Read). o >>= replayed_behind generation (held, big_bytes 8 replayed)) second
    ∙ rw in_order refl

pub packet_again : ReadsAgain
packet_again (Log generation index e) fits =
    behind_tag 0x4C generation (big_bytes 8 index ++ spelling e) fits.0 fits.1
    ∙ log_again generation index e fits.2 fits.3
packet_again (Ack generation held None) fits =
    behind_tag 0x41 generation (big_bytes 8 held) fits.0 fits.1 ∙ ack_again generation held fits.2
packet_again (Ack generation held (Some replayed)) fits =
    behind_tag 0x42 generation (big_bytes 8 held ++ big_bytes 8 replayed) fits.0 fits.1
    ∙ report_again generation held replayed fits.2 fits.3

-- ---- what is read was written so

-- the packet has these bytes after its tag and its generation
abbrev HasBytes : ℕ → ℕ → List ℕ → Packet → Type 0
HasBytes tag generation bytes p =
    (0 < generation → generation < 2 ^ 32 → IsPacket p) × (tag ∷ big_bytes 4 generation ++ bytes ≡ packet_bytes p)

-- the same bytes after the same tag and generation
same_bytes : (tag generation : ℕ) (bytes others : List ℕ) → bytes ≡ others
    → tag ∷ big_bytes 4 generation ++ bytes ≡ tag ∷ big_bytes 4 generation ++ others
same_bytes tag generation bytes others same = ap (λ (bs : List ℕ). tag ∷ big_bytes 4 generation ++ bs) same

log_takes : (generation : ℕ) (bytes : List ℕ) (p : Packet) → IsBytes bytes → log_at generation bytes ≡ Some p
    → HasBytes 0x4C generation bytes p
unfolding log_at
log_takes generation bytes p are_bytes read =
    let index = first_read (number_from bytes) (entry_behind generation) p read in
    let limit_test = not_refused (eqb index.0.0 (2 ^ 62 - 1)) _ p index.2 in
    let entry = first_read (entry_at index.0.1) (λ e. Some (Log generation index.0.0 e)) p limit_test.1 in
    let taken = number_takes bytes index.0 are_bytes index.1 in
    let entry_taken = entry_takes index.0.1 entry.0 taken.are_bytes entry.1 in
    let other = eqb-false _ _ limit_test.0 in
    let below = taken.below in
    let is_index : index.0.0 < 2 ^ 62 - 1 = omega (arith, other, below) in
    let spelled = taken.parts ∙ ap (λ (bs : List ℕ). big_bytes 8 index.0.0 ++ bs) entry_taken.1 in
    subst (HasBytes 0x4C generation bytes) (same_Some _ _ entry.2)
    (λ above below. (above, below, is_index, entry_taken.0), same_bytes 0x4C generation _ _ spelled)

ack_takes : (generation : ℕ) (bytes : List ℕ) (p : Packet) → IsBytes bytes → ack_at generation bytes ≡ Some p
    → HasBytes 0x41 generation bytes p
unfolding ack_at
ack_takes generation bytes p are_bytes read =
    let held = first_read (number_from bytes) (end_behind generation) p read in
    let end_test = admitted (eqb (length held.0.1) 0) (Ack generation held.0.0 None) p held.2 in
    let taken = number_takes bytes held.0 are_bytes held.1 in
    let nothing : held.0.1 ≡ [] = nil_from_length held.0.1 (eqb-true _ _ end_test.0) in
    let spelled = taken.parts ∙ ap (λ (bs : List ℕ). big_bytes 8 held.0.0 ++ bs) nothing in
    subst (HasBytes 0x41 generation bytes) end_test.1
    (λ above below. (above, below, taken.below, tt), same_bytes 0x41 generation bytes (big_bytes 8 held.0.0) spelled)

report_takes : (generation : ℕ) (bytes : List ℕ) (p : Packet) → IsBytes bytes → report_at generation bytes ≡ Some p
    → HasBytes 0x42 generation bytes p
unfolding report_at
report_takes generation bytes p are_bytes read =
    let held = first_read (number_from bytes) (held_behind generation) p read in
    let replayed = first_read (number_from held.0.1) (replayed_behind generation held.0) p held.2 in
    let order_test = not_refused (ltb held.0.0 replayed.0.0) _ p replayed.2 in
    let report = Ack generation held.0.0 (Some replayed.0.0) in
    let end_test = admitted (eqb (length replayed.0.1) 0) report p order_test.1 in
    let taken = number_takes bytes held.0 are_bytes held.1 in
    let number = number_takes held.0.1 replayed.0 taken.are_bytes replayed.1 in
    let nothing : replayed.0.1 ≡ [] = nil_from_length replayed.0.1 (eqb-true _ _ end_test.0) in
    let last = number.parts ∙ ap (λ (bs : List ℕ). big_bytes 8 replayed.0.0 ++ bs) nothing in
    let spelled = taken.parts ∙ ap (λ (bs : List ℕ). big_bytes 8 held.0.0 ++ bs) last in
    let few : replayed.0.0 ≤ held.0.0 = ltb-false _ _ order_test.0 in
    subst (HasBytes 0x42 generation bytes) end_test.1 (
      λ above below. (above, below, taken.below, few),
      same_bytes 0x42 generation bytes (big_bytes 8 held.0.0 ++ big_bytes 8 replayed.0.0) spelled,
    )

-- a choice of two options that gave something
chosen : {A : Type 0} (test : Bool) (x y : Option A) (z : A) → cond test x y ≡ Some z
    → ((test ≡ true) × (x ≡ Some z)) ⊎ ((test ≡ false) × (y ≡ Some z))
chosen true x y z e = inl (refl, e)
chosen false x y z e = inr (refl, e)

kind_takes : (tag generation : ℕ) (bytes : List ℕ) (p : Packet) → IsBytes bytes
    → kind_behind tag (generation, bytes) ≡ Some p → HasBytes tag generation bytes p
kind_takes tag generation bytes p are_bytes read =
    let of_report = cond (eqb tag 0x42) (report_at generation bytes) None in
    let of_ack = cond (eqb tag 0x41) (ack_at generation bytes) of_report in
    let Has : ℕ → Type 0 = λ first. HasBytes first generation bytes p in
    elim (chosen (eqb tag 0x4C) (log_at generation bytes) of_ack p read) [
      | inl log ↦ subst Has (sym (eqb-true _ _ log.0)) (log_takes generation bytes p are_bytes log.1)
      | inr other ↦ elim (chosen (eqb tag 0x41) (ack_at generation bytes) of_report p other.1) [
        | inl ack ↦ subst Has (sym (eqb-true _ _ ack.0)) (ack_takes generation bytes p are_bytes ack.1)
        | inr third ↦ elim (chosen (eqb tag 0x42) (report_at generation bytes) None p third.1) [
          | inl report ↦ subst Has (sym (eqb-true _ _ report.0)) (report_takes generation bytes p are_bytes report.1)
          | inr none ↦ absurd (none-some p none.1)
        ]
      ]
    ]

pub packet_takes : OneSpelling
unfolding packet_at
packet_takes [] p are_bytes read = absurd cc
packet_takes (tag ∷ bytes) p are_bytes read =
    let generation = first_read (generation_from bytes) (kind_behind tag) p read in
    let taken = generation_takes bytes generation.0 (IsBytes-rest tag bytes are_bytes) generation.1 in
    let kind = kind_takes tag generation.0.0 generation.0.1 p taken.are_bytes generation.2 in
    (kind.0 taken.above taken.below, ap (λ (bs : List ℕ). tag ∷ bs) taken.parts ∙ kind.1)

pub one_meaning : OneMeaning
one_meaning p other fits other_fits same =
    same_Some _ _ (sym (packet_again p fits) ∙ ap packet_at same ∙ packet_again other other_fits)

-- ---- the clauses of `read`

pub is_found : (bytes : List ℕ) (o : Option Packet) → IsBytes bytes → o ≡ packet_at bytes
    → IfOk (ok_or o Malformed) (λ p. IsPacket p × (bytes ≡ packet_bytes p))
is_found bytes None are_bytes read = tt
is_found bytes (Some p) are_bytes read = packet_takes bytes p are_bytes (sym read)

pub is_only : (bytes : List ℕ) (p : Packet) → IsPacket p → bytes ≡ packet_bytes p → packet_at bytes ≡ Some p
is_only bytes p fits same = ap packet_at same ∙ packet_again p fits
