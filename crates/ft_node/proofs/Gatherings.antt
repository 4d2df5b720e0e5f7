-- What an assembly answers to a part that arrives, and what the part leaves of it. A refusal and a repeat leave it as it
-- was, and so does a new part that is taken back; it is always of the same generation, for as many drives.
use Rattle.std.proofs.Common.{◌≡◌, ℕ, zero, suc, ◌<◌, Bool, true, false, cond, ◌==◌, ◌&&◌, Option, Some, None, is_none, List, [], ◌∷◌, length, Ok, Err, refl, sym, ap, ◌∙◌, arith}
use Rattle.std.specs.Prelude.{slice_get, slice_index_or, slice_set}
use Rattle.std.proofs.lemmas.Option.{none-some}
use Rattle.clone_state.specs.Assembly as table
use Rattle.ft_node.proofs.Words.{Fault, Gathering, PartMessage, Slots, WrongGeneration, after_forgetting, after_part, answer_to, gathered, is_missing, message_at, with_first, with_part, without_part}
use Rattle.log_entry.specs.Numbers.{◌>>=◌}

-- ---- slots

-- what all slots hold is the same in the words of an image and of the protocol
put_first : (part : List ℕ) (o : Option (List (List ℕ))) → (o >>= λ rest. Some (part ∷ rest)) ≡ with_first part o
put_first part None = refl
put_first part (Some rest) = refl

pub gathered_alike : (slots : Slots) → table.gathered slots ≡ gathered slots
gathered_alike [] = refl
gathered_alike (None ∷ slots) = refl
gathered_alike (Some part ∷ slots) =
    ap (λ o. o >>= λ rest. Some (part ∷ rest)) (gathered_alike slots) ∙ put_first part (gathered slots)

pub free_slot : (slots : Slots) (index : ℕ) → index < length slots → slice_index_or slots index None ≡ None
    → slice_get slots index ≡ Some None
free_slot [] index within free = absurd (omega (arith, within))
free_slot (slot ∷ slots) zero within free = ap Some free
free_slot (slot ∷ slots) (suc index) within free = free_slot slots index (omega (arith, within)) free

pub taken_slot : (slots : Slots) (index : ℕ) (before : List ℕ) → slice_index_or slots index None ≡ Some before
    → slice_get slots index ≡ Some (Some before)
taken_slot [] index before is = absurd (none-some before is)
taken_slot (slot ∷ slots) zero before is = ap Some is
taken_slot (slot ∷ slots) (suc index) before is = taken_slot slots index before is

taken_back : (slots : Slots) (index : ℕ) (slot : Option (List ℕ)) → slice_index_or slots index None ≡ None
    → slice_set (slice_set slots index slot) index None ≡ slots
taken_back [] index slot free = refl
taken_back (s ∷ slots) zero slot free = ap (λ s. s ∷ slots) (sym free)
taken_back (s ∷ slots) (suc index) slot free = ap (λ slots. s ∷ slots) (taken_back slots index slot free)

pub is_free : (slot : Option (List ℕ)) → is_none slot ≡ true → slot ≡ None
is_free None e = refl
is_free (Some before) e = absurd (cc)

pub is_taken : (slot : Option (List ℕ)) → is_none slot ≡ false → (before : List ℕ) × (slot ≡ Some before)
is_taken None e = absurd (cc)
is_taken (Some before) e = (before, refl)

-- ---- what an assembly answers

-- a part that comes to a free slot, or to one that has a payload
pub record IsPart (g : Gathering) (o : Option PartMessage) (free : Bool) : Type 0 where
  pub m : PartMessage
  pub read : o ≡ Some m
  pub own : (m.generation == g.generation) ≡ true
  pub slot : is_missing g m.index ≡ free

pub came : (g : Gathering) (o : Option PartMessage) (free : Bool) → Ok free ≡ answer_to g o → IsPart g o free
came g None free answer = absurd (cc)
came g (Some m) free answer = go (m.generation == g.generation) refl answer
  where
    go : (b : Bool) → (m.generation == g.generation) ≡ b
        → Ok free ≡ cond b (Ok (is_missing g m.index)) (Err WrongGeneration) → IsPart g (Some m) free
    go true own answer = record { m = m; read = refl; own = own; slot = cc }
    go false own answer = absurd (cc)

-- a refusal leaves the slots as they were
pub refused_stays : (g : Gathering) (o : Option PartMessage) (fault : Fault) → Err fault ≡ answer_to g o
    → with_part g o ≡ g
refused_stays g None fault answer = refl
refused_stays g (Some m) fault answer = go (m.generation == g.generation) answer
  where
    go : (b : Bool) → Err fault ≡ cond b (Ok (is_missing g m.index)) (Err WrongGeneration)
        → cond (b && is_missing g m.index) (record g { slots = slice_set g.slots m.index (Some m.payload) }) g ≡ g
    go true answer = absurd (cc)
    go false answer = refl

pub with_it : (g : Gathering) (o : Option PartMessage) (free : Bool) (p : IsPart g o free) → with_part g o
    ≡ cond free (record g { slots = slice_set g.slots p.m.index (Some p.m.payload) }) g
with_it g o free p =
    ap (with_part g) p.read
    ∙ ap (λ b. cond (b && is_missing g p.m.index)
    (record g { slots = slice_set g.slots p.m.index (Some p.m.payload) }) g) p.own
    ∙ ap (λ b. cond b (record g { slots = slice_set g.slots p.m.index (Some p.m.payload) }) g) p.slot

-- so does a repeat
pub repeat_stays : (g : Gathering) (o : Option PartMessage) → Ok false ≡ answer_to g o → with_part g o ≡ g
repeat_stays g o answer = with_it g o false (came g o false answer)

-- and so does a new part that is taken back
pub taken_back_stays : (g : Gathering) (o : Option PartMessage) → Ok true ≡ answer_to g o
    → without_part (with_part g o) o ≡ g
taken_back_stays g o answer =
    let p = came g o true answer in
    let new : Gathering = record g { slots = slice_set g.slots p.m.index (Some p.m.payload) } in
    ap (λ (h : Gathering). without_part h o) (with_it g o true p)
    ∙ ap (without_part new) p.read
    ∙ ap (λ b. cond b (record new { slots = slice_set new.slots p.m.index None }) new) p.own
    ∙ ap (λ (ss : Slots). record g { slots = ss })
    (taken_back g.slots p.m.index (Some p.m.payload) (is_free _ p.slot))

-- ---- its generation and its drives

pub generation_stays : (g : Gathering) (o : Option PartMessage) → (with_part g o).generation ≡ g.generation
generation_stays g None = refl
generation_stays g (Some m) = by (m.generation == g.generation && is_missing g m.index)
  where
    by : (b : Bool) → (cond b (record g { slots = slice_set g.slots m.index (Some m.payload) }) g).generation
        ≡ g.generation
    by true = refl
    by false = refl

pub drives_stay : (g : Gathering) (o : Option PartMessage) → (with_part g o).drives ≡ g.drives
drives_stay g None = refl
drives_stay g (Some m) = by (m.generation == g.generation && is_missing g m.index)
  where
    by : (b : Bool) → (cond b (record g { slots = slice_set g.slots m.index (Some m.payload) }) g).drives ≡ g.drives
    by true = refl
    by false = refl

without_keeps : (g : Gathering) (o : Option PartMessage) → (without_part g o).generation ≡ g.generation
without_keeps g None = refl
without_keeps g (Some m) = by (m.generation == g.generation)
  where
    by : (b : Bool) → (cond b (record g { slots = slice_set g.slots m.index None }) g).generation ≡ g.generation
    by true = refl
    by false = refl

pub part_keeps : (g : Gathering) (bytes : List ℕ) → (after_part g bytes).generation ≡ g.generation
unfolding after_part
part_keeps g bytes = generation_stays g (message_at g.drives bytes)

pub forgetting_keeps : (g : Gathering) (bytes : List ℕ) → (after_forgetting g bytes).generation ≡ g.generation
unfolding after_forgetting
forgetting_keeps g bytes = without_keeps g (message_at g.drives bytes)
