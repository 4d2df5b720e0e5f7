-- A part that arrives at an assembly: what its bytes say, the slot that its payload fits, and what is answered.
use Rattle.std.proofs.Common.{◌≡◌, ℕ, ◌+◌, ◌≤◌, Bool, true, false, cond, eqb, ltb, ◌&&◌, List, length, Option, Some, None, Result, Ok, Err, is_some, refl, sym, ap, subst, ◌∙◌, arith}
use Rattle.std.specs.Prelude.{slice_set, vec_capacity}
use Rattle.std.specs.Global.{Vec}
use Rattle.std.proofs.lemmas.Bool.{eq-eqb, eqb-true, ltb-true, ne_eqb}
use Rattle.clone_state.proofs.Words.{Fault, FirstPart, FitsSlot, Gathering, HasSlots, IsBytes, Malformed, PartMessage, Slots, WrongGeneration, after_forgetting, after_part, answer_to, first_in, is_free, is_missing, is_page, is_payload, message_at, part_answer, part_count, read_all, table, table_count, taken, with_part, without_part}
use Rattle.clone_state.proofs.Made.{page_length}
use Rattle.clone_state.proofs.Messages.{message_written}
use Rattle.clone_state.proofs.ReadSizes.{first_size, table_size}

-- ---- the payload and its slot

-- the payload of a part is no longer than a first part may be, and a later one is as long as a page
record HasLength (count index : ℕ) (payload : List ℕ) : Type 0 where
  inside : index ≤ count
  some : 1 ≤ length payload
  most : length payload ≤ 1445
  page : 1 ≤ index → length payload ≡ 256

front_length : (drives count index : ℕ) (payload : List ℕ) (o : Option FirstPart) → index ≡ 0
    → first_in drives payload ≡ o → is_some o ≡ true → HasLength count index payload
front_length drives count index payload None zero is some = absurd (cc)
front_length drives count index payload (Some f) zero is some =
    let size = first_size drives payload f is in
    let least = size.0 in
    let most = size.1 in
    record {
      inside = omega (arith, zero);
      some = least;
      most = most;
      page = λ later. absurd (omega (arith, zero, later));
    }

whole_page : (count index : ℕ) (payload : List ℕ) → index ≤ count → length payload ≡ 256 → HasLength count index payload
whole_page count index payload inside long = record {
  inside = inside;
  some = omega (arith, long);
  most = omega (arith, long);
  page = λ later. long;
}

table_length : (count index : ℕ) (payload : List ℕ) (o : Option (List ℕ)) → index ≤ count → read_all table payload ≡ o
    → is_some o ≡ true → HasLength count index payload
table_length count index payload None inside is some = absurd (cc)
table_length count index payload (Some xs) inside is some =
    whole_page count index payload inside (table_size payload xs is)

has_length : (drives index : ℕ) (payload : List ℕ) → is_payload drives index payload ≡ true
    → HasLength (256 + table_count drives) index payload
unfolding is_payload
has_length drives index payload is =
    go (eqb index 0) (ltb index 257) (ltb index (part_count drives)) refl refl refl is
  where
    go : (front page later : Bool) → eqb index 0 ≡ front → ltb index 257 ≡ page → ltb index (part_count drives) ≡ later
        → cond front (is_some (first_in drives payload))
        (cond page (is_page payload) (cond later (is_some (read_all table payload)) false)) ≡ true
        → HasLength (256 + table_count drives) index payload
    go true page later zero p l e =
        front_length drives (256 + table_count drives) index payload (first_in drives payload) (eqb-true index 0 zero)
        refl e
    go false true later zero p l e =
        let low = ltb-true index 257 p in
        whole_page (256 + table_count drives) index payload (omega (arith, low))
        (eqb-true (length payload) 256 (page_length payload ∙ e))
    go false false true zero p l e =
        let low = ltb-true index (part_count drives) l in
        table_length (256 + table_count drives) index payload (read_all table payload) (omega (arith, low)) refl e
    go false false false zero p l e = absurd (cc)

pub fits_slot : (drives : ℕ) (first : Vec ℕ) (later : Vec (Option (List ℕ))) (bytes : List ℕ) (m : PartMessage)
    → HasSlots drives first later → IsBytes bytes → Some m ≡ message_at drives bytes
    → (length m.payload ≤ vec_capacity first) × FitsSlot (length later.items) m.index m.payload
fits_slot drives first later bytes m slots are_bytes read =
    let message = (message_written drives bytes m are_bytes (sym read)).0 in
    let h = has_length drives m.index m.payload message.payload in
    let room = slots.room in
    let most = h.most in (
      omega (arith, room, most),
      record {
        inside = subst (λ n. m.index ≤ n) (sym slots.count) h.inside;
        some = h.some;
        page = h.page;
      },
    )

-- ---- what is answered

-- what the bytes say is the same for what is shown of the assembly
shown : {old view : Gathering} {o : Option PartMessage} (bytes : List ℕ) → view ≡ old
    → o ≡ message_at view.drives bytes → o ≡ message_at old.drives bytes
shown bytes same read = read ∙ ap (λ (g : Gathering). message_at g.drives bytes) same

pub none_came : (old view : Gathering) (bytes : List ℕ) → view ≡ old → None ≡ message_at view.drives bytes
    → (◌≡◌ {A = Result Bool Fault} (Err Malformed) (part_answer old bytes)) × (old ≡ after_part old bytes)
unfolding part_answer after_part
none_came old view bytes same read =
    let e : None ≡ message_at old.drives bytes = shown bytes same read in
    (ap (answer_to old) e, ap (with_part old) e)

pub other_came : (old view : Gathering) (bytes : List ℕ) (m : PartMessage) → view ≡ old
    → Some m ≡ message_at view.drives bytes → (m.generation ≡ view.generation → ⊥)
    → (◌≡◌ {A = Result Bool Fault} (Err WrongGeneration) (part_answer old bytes)) × (old ≡ after_part old bytes)
unfolding part_answer after_part
other_came old view bytes m same read differs =
    let e : Some m ≡ message_at old.drives bytes = shown bytes same read in
    let other : eqb m.generation old.generation ≡ false =
    ne_eqb m.generation old.generation (λ z. differs (z ∙ sym (ap (λ (g : Gathering). g.generation) same))) in (
      sym (ap (λ b. cond b (Ok (is_missing old m.index)) (Err WrongGeneration)) other) ∙ ap (answer_to old) e,
      sym (ap (λ b. cond (b && is_missing old m.index)
          (record old { slots = slice_set old.slots m.index (Some m.payload) }) old) other)
          ∙ ap (with_part old) e,
    )

-- a slot is taken if it was free
takes : (g : Gathering) (m : PartMessage) → record g { slots = taken g.slots m.index m.payload }
    ≡ cond (is_missing g m.index) (record g { slots = slice_set g.slots m.index (Some m.payload) }) g
takes g m = go (is_missing g m.index)
  where
    go : (b : Bool) → record g { slots = cond b (slice_set g.slots m.index (Some m.payload)) g.slots }
        ≡ cond b (record g { slots = slice_set g.slots m.index (Some m.payload) }) g
    go true = refl
    go false = refl

pub one_came : (old view : Gathering) (bytes : List ℕ) (m : PartMessage) (new : Slots) (result : Bool) → view ≡ old
    → Some m ≡ message_at view.drives bytes → m.generation ≡ view.generation
    → result ≡ is_free view.slots m.index → new ≡ taken view.slots m.index m.payload
    → (◌≡◌ {A = Result Bool Fault} (Ok result) (part_answer old bytes))
    × (record view { slots = new } ≡ after_part old bytes)
unfolding part_answer after_part
one_came old view bytes m new result same read generation free slots =
    let e : Some m ≡ message_at old.drives bytes = shown bytes same read in
    let own : eqb m.generation old.generation ≡ true =
    eq-eqb m.generation old.generation (generation ∙ ap (λ (g : Gathering). g.generation) same) in (
      ap Ok (free ∙ ap (λ (g : Gathering). is_missing g m.index) same)
          ∙ sym (ap (λ b. cond b (Ok (is_missing old m.index)) (Err WrongGeneration)) own) ∙ ap (answer_to old) e,
      ap (λ (ss : Slots). record view { slots = ss }) slots
          ∙ ap (λ (g : Gathering). record g { slots = taken g.slots m.index m.payload }) same ∙ takes old m
          ∙ sym (ap (λ b. cond (b && is_missing old m.index)
          (record old { slots = slice_set old.slots m.index (Some m.payload) }) old) own)
          ∙ ap (with_part old) e,
    )

-- ---- a part is taken back

pub none_forgotten : (old view : Gathering) (bytes : List ℕ) → view ≡ old → None ≡ message_at view.drives bytes
    → old ≡ after_forgetting old bytes
unfolding after_forgetting
none_forgotten old view bytes same read =
    let e : None ≡ message_at old.drives bytes = shown bytes same read in
    ap (without_part old) e

pub other_forgotten : (old view : Gathering) (bytes : List ℕ) (m : PartMessage) → view ≡ old
    → Some m ≡ message_at view.drives bytes → (m.generation ≡ view.generation → ⊥) → old ≡ after_forgetting old bytes
unfolding after_forgetting
other_forgotten old view bytes m same read differs =
    let e : Some m ≡ message_at old.drives bytes = shown bytes same read in
    let other : eqb m.generation old.generation ≡ false =
    ne_eqb m.generation old.generation (λ z. differs (z ∙ sym (ap (λ (g : Gathering). g.generation) same))) in
    sym (ap (λ b. cond b (record old { slots = slice_set old.slots m.index None }) old) other) ∙ ap (without_part old) e

pub one_forgotten : (old view : Gathering) (bytes : List ℕ) (m : PartMessage) (new : Slots) → view ≡ old
    → Some m ≡ message_at view.drives bytes → m.generation ≡ view.generation
    → new ≡ slice_set view.slots m.index None → record view { slots = new } ≡ after_forgetting old bytes
unfolding after_forgetting
one_forgotten old view bytes m new same read generation slots =
    let e : Some m ≡ message_at old.drives bytes = shown bytes same read in
    let own : eqb m.generation old.generation ≡ true =
    eq-eqb m.generation old.generation (generation ∙ ap (λ (g : Gathering). g.generation) same) in
    ap (λ (ss : Slots). record view { slots = ss }) slots
    ∙ ap (λ (g : Gathering). record g { slots = slice_set g.slots m.index None }) same
    ∙ sym (ap (λ b. cond b (record old { slots = slice_set old.slots m.index None }) old) own) ∙ ap (without_part old) e
