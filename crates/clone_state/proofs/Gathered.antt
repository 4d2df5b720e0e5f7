-- The slots keep parts of one image, so when all are full they are its parts, and make its machine.
use Rattle.std.proofs.Common.{◌≡◌, ℕ, zero, suc, ◌<◌, Bool, true, false, cond, eqb, ◌&&◌, List, [], ◌∷◌, length, replicate, Option, Some, None, is_some, ◌⊎◌, inl, inr, refl, sym, ap, ◌∙◌, arith}
use Rattle.std.specs.Prelude.{slice_get, slice_index_or, slice_set}
use Rattle.std.proofs.lemmas.Bool.{and_parts, eqb-true}
use Rattle.std.proofs.lemmas.List.{length-replicate, length-set}
use Rattle.std.proofs.lemmas.Option.{none-some, same_Some}
use Rattle.clone_state.proofs.Words.{Gathering, Guest, IsCopyable, PartMessage, Slots, after_part, checkpoint_of, first_read, gathered, guest_in, is_missing, is_whole, machine_in, message_at, nothing_gathered, part_count, parts_of, with_part}
use Rattle.log_entry.specs.Numbers.{◌>>=◌}
use Rattle.clone_state.specs.Gathering.{AreOf, IsOfImage}
use Rattle.clone_state.proofs.Copyable.{parts_make_it}

-- ---- slots

get_set_cases : {A : Type 0} (xs : List A) (n m : ℕ) (y z : A) → slice_get (slice_set xs n y) m ≡ Some z
    → ((m ≡ n) × (z ≡ y)) ⊎ (slice_get xs m ≡ Some z)
get_set_cases [] n m y z h = inr h
get_set_cases (v ∷ xs) zero zero y z h = inl (refl, sym (same_Some y z h))
get_set_cases (v ∷ xs) zero (suc m) y z h = inr h
get_set_cases (v ∷ xs) (suc n) zero y z h = inr h
get_set_cases {A} (v ∷ xs) (suc n) (suc m) y z h = go (get_set_cases xs n m y z h)
  where
    go : ((m ≡ n) × (z ≡ y)) ⊎ (slice_get xs m ≡ Some z) → ((suc m ≡ suc n) × (z ≡ y)) ⊎ (slice_get xs m ≡ Some z)
    go (inl k) = inl (ap suc k.0, k.1)
    go (inr k) = inr k

no_slot : (n index : ℕ) (payload : List ℕ) → slice_get (replicate n None) index ≡ Some (Some payload) → ⊥
no_slot zero index payload e = none-some (Some payload) e
no_slot (suc n) zero payload e = none-some payload (same_Some None (Some payload) e)
no_slot (suc n) (suc index) payload e = no_slot n index payload e

pub begins_of : (parts : List (List ℕ)) (generation drives : ℕ) → length parts ≡ part_count drives
    → AreOf parts (nothing_gathered generation drives (part_count drives)).slots
begins_of parts generation drives e = record {
  long = length-replicate (part_count drives) None ∙ sym e;
  each = λ index payload there. absurd (no_slot (part_count drives) index payload there);
}

-- ---- a part comes

taken_of : (parts : List (List ℕ)) (g : Gathering) (m : PartMessage) → AreOf parts g.slots
    → slice_get parts m.index ≡ Some m.payload → AreOf parts (slice_set g.slots m.index (Some m.payload))
taken_of parts g m h there = record {
  long = length-set g.slots m.index (Some m.payload) ∙ h.long;
  each = λ index payload e. go index payload (get_set_cases g.slots m.index index (Some m.payload) (Some payload) e);
}
  where
    go : (index : ℕ) (payload : List ℕ) → ((index ≡ m.index) × (Some payload ≡ Some m.payload))
        ⊎ (slice_get g.slots index ≡ Some (Some payload)) → slice_get parts index ≡ Some payload
    go index payload (inl k) = ap (slice_get parts) k.0 ∙ there ∙ sym k.1
    go index payload (inr k) = h.each index payload k

with_of : (parts : List (List ℕ)) (g : Gathering) (o : Option PartMessage) → AreOf parts g.slots
    → ((m : PartMessage) → o ≡ Some m → m.generation ≡ g.generation → slice_get parts m.index ≡ Some m.payload)
    → AreOf parts (with_part g o).slots
with_of parts g None h each = h
with_of parts g (Some m) h each = go (eqb m.generation g.generation && is_missing g m.index) refl
  where
    go : (b : Bool) → (eqb m.generation g.generation && is_missing g m.index) ≡ b
        → AreOf parts (cond b (record g { slots = slice_set g.slots m.index (Some m.payload) }) g).slots
    go true e =
        let same = eqb-true _ _ (and_parts (eqb m.generation g.generation) (is_missing g m.index) e).0 in
        taken_of parts g m h (each m refl same)
    go false e = h

pub stays_of : (parts : List (List ℕ)) (g : Gathering) (bytes : List ℕ) → AreOf parts g.slots
    → IsOfImage g parts bytes → AreOf parts (after_part g bytes).slots
unfolding after_part
stays_of parts g bytes h is = with_of parts g (message_at g.drives bytes) h is

-- ---- all parts came

next_some : (payload : List ℕ) (o : Option (List (List ℕ))) → is_some o ≡ true
    → is_some (o >>= λ rest. Some (payload ∷ rest)) ≡ true
next_some payload None e = e
next_some payload (Some rest) e = refl

next_was : (payload : List ℕ) (o : Option (List (List ℕ))) → is_some (o >>= λ rest. Some (payload ∷ rest)) ≡ true
    → is_some o ≡ true
next_was payload None e = e
next_was payload (Some rest) e = refl

pub all_came : (slots : Slots) → is_some (gathered slots) ≡ true
    → (index : ℕ) → index < length slots → is_some (slice_index_or slots index None) ≡ true
all_came [] whole index inside = absurd (omega (arith, inside))
all_came (None ∷ slots) whole index inside = absurd cc
all_came (Some payload ∷ slots) whole zero inside = refl
all_came (Some payload ∷ slots) whole (suc index) inside =
    all_came slots (next_was payload (gathered slots) whole) index (omega (arith, inside))

pub then_whole : (slots : Slots)
    → ((index : ℕ) → index < length slots → is_some (slice_index_or slots index None) ≡ true)
    → is_some (gathered slots) ≡ true
then_whole [] each = refl
then_whole (None ∷ slots) each = each 0 (omega arith)
then_whole (Some payload ∷ slots) each =
    next_some payload (gathered slots) (then_whole slots (λ index inside. each (suc index) (omega (arith, inside))))

-- if all have arrived, they are the parts of the image
pub gathered_are : (slots : Slots) (parts payloads : List (List ℕ)) → AreOf parts slots → gathered slots ≡ Some payloads
    → payloads ≡ parts
gathered_are [] [] payloads h e = sym (same_Some [] payloads e)
gathered_are [] (part ∷ parts) payloads h e = let l = h.long in absurd (omega (arith, l))
gathered_are (slot ∷ slots) [] payloads h e = let l = h.long in absurd (omega (arith, l))
gathered_are (None ∷ slots) (part ∷ parts) payloads h e = absurd (none-some payloads e)
gathered_are (Some payload ∷ slots) (part ∷ parts) payloads h e =
    let r = first_read (gathered slots) (λ rest. Some (payload ∷ rest)) payloads e in
    let l = h.long in
    let here : part ≡ payload = same_Some part payload (h.each 0 payload refl) in
    let more : r.0 ≡ parts =
    gathered_are slots parts r.0 (record { long = omega (arith, l); each = λ index p there. h.each (suc index) p there }) r.1 in
    sym (same_Some (payload ∷ r.0) payloads r.2) ∙ ap (λ p. p ∷ r.0) (sym here) ∙ ap (λ ps. part ∷ ps) more

pub whole_makes : (machine : Guest) (g : Gathering) → IsCopyable machine → g.drives ≡ machine.devices.disk.attached
    → AreOf (parts_of (checkpoint_of machine)) g.slots → is_whole g ≡ true → machine_in g ≡ Some machine
whole_makes machine g h same are whole = go (gathered g.slots) refl whole
  where
    go : (o : Option (List (List ℕ))) → gathered g.slots ≡ o → is_some o ≡ true → machine_in g ≡ Some machine
    go None e none = absurd cc
    go (Some payloads) e some =
        ap (λ o. o >>= guest_in g.drives) e
        ∙ ap (guest_in g.drives) (gathered_are g.slots (parts_of (checkpoint_of machine)) payloads are e)
        ∙ ap (λ n. guest_in n (parts_of (checkpoint_of machine))) same
        ∙ parts_make_it machine h
