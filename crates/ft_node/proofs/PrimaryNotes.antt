-- What a coverage knows of a primary as its machine moves. A new operation has its note, one that is completed no longer
-- has one, and every other is found and noted as before: so the notes are those of the protocol, and only outstanding
-- operations, of which there are few, have notes.
use Rattle.std.specs.Option.{option_map}
use Rattle.std.proofs.Common.{◌≡◌, ◌≢◌, ℕ, zero, suc, ◌<◌, ◌≤◌, ◌⊎◌, inl, inr, ⊎_elim, cond, Some, None, List, [], ◌∷◌, ◌++◌, length, take, get_or, length-append, refl, sym, ap, ◌∙◌, arith}
use Rattle.std.specs.Prelude.{AllPairs}
use Rattle.std.proofs.lemmas.Bool.{cases_Bool}
use Rattle.std.proofs.lemmas.List.{take-append-le}
use Rattle.std.proofs.lemmas.List.Kept.{AllPairs-filter}
use Rattle.ft_node.proofs.Words.{AreFew, AreOfOutstanding, ComesAndGoes, Covering, Covers, Entry, IsCovering, Machine, Node, OpId, Operation, Timed, after_forget, after_note, id_of, inputs_of, marks, note_of, notes_after, primary_steps, reads_in, waits_for, waits_in, waits_of}
use Rattle.event_callbacks.specs.declared.operations.Operation.TheVariants as operation
use Rattle.event_callbacks.proofs.Names.{name_cases, same_name-different, same_name-itself}
use Rattle.log_entry.specs.declared.entry.Entry.TheVariants as entry
use Rattle.output_rule.specs.Covering.{last_read_for}
use Rattle.output_rule.specs.Laws.{AreNotesOf}
use Rattle.output_rule.specs.Notes.{note_in, same_name, with_note, without_note, AreApart}
use Rattle.output_rule.specs.declared.notes.Note.{Note}
use Rattle.output_rule.specs.declared.notes.TheConstants.{PLACES}
use Rattle.output_rule.proofs.FewNotes.{few_notes}
use Rattle.output_rule.proofs.NoteLists.{apart-with_note, note_comes, note_goes}
use Rattle.pair_protocol.specs.Node as protocol
use Rattle.guest_lockstep.specs.Reach as reach
use Rattle.ft_node.proofs.LastReads.{reads_without}

-- ---- the notes while only the machine and its log move

-- no operation and no note changes, except that an operation may go, with its note
abbrev pub Keeps : {S : Type 0} → Machine S → S → List Note → S → List Note → Type 0
Keeps M s notes t left =
    (name : OpId)
    → ((M.find t name ≡ None) × (note_in left name ≡ None))
    ⊎ ((M.find t name ≡ M.find s name) × (note_in left name ≡ note_in notes name))

pub keeps_all : {S : Type 0} (M : Machine S) (s t : S) (notes : List Note)
    → ((name : OpId) → M.find t name ≡ M.find s name) → Keeps M s notes t notes
keeps_all M s t notes same = λ name. inr (same name, refl)

pub keeps_others : {S : Type 0} (M : Machine S) (s t : S) (notes : List Note) (name : OpId) → M.find t name ≡ None
    → ((other : OpId) → other ≢ name → M.find t other ≡ M.find s other)
    → Keeps M s notes t (without_note notes name)
keeps_others M s t notes name gone same = λ other.
    ⊎_elim
    (λ is. inl (ap (M.find t) is ∙ gone, ap (note_in (without_note notes name)) is ∙ (note_goes notes name).itself))
    (λ differs. inr (same other differs, (note_goes notes name).others other differs))
    (name_cases other name)

kept_outstanding : {S : Type 0} (M : Machine S) (s t : S) (notes left : List Note) (name : OpId) (note : Note)
    → ((M.find t name ≡ None) × (note_in left name ≡ None))
    ⊎ ((M.find t name ≡ M.find s name) × (note_in left name ≡ note_in notes name))
    → ((name : OpId) (note : Note) → note_in notes name ≡ Some note → (o : Operation) × (M.find s name ≡ Some o))
    → note_in left name ≡ Some note → (o : Operation) × (M.find t name ≡ Some o)
kept_outstanding M s t notes left name note (inl gone) before is = let none = gone.1 in absurd (cc)
kept_outstanding M s t notes left name note (inr same) before is =
    let there = before name note (sym same.1 ∙ is) in
    (there.0, same.0 ∙ there.1)

kept_noted : {S : Type 0} (M : Machine S) (x : Node S) (c : Covering) (t : S) (left : List Note) (name : OpId)
    (o : Operation)
    → ((M.find t name ≡ None) × (note_in left name ≡ None))
    ⊎ ((M.find t name ≡ M.find x.machine name) × (note_in left name ≡ note_in c.notes name))
    → Covers M c x → M.find t name ≡ Some o → waits_of left name ≡ waits_in (note_of x.notes name)
kept_noted M x c t left name o (inl gone) covers there = let none = gone.0 in absurd (cc)
kept_noted M x c t left name o (inr same) covers there =
    ap (option_map (λ (n : Note). (n.index, n.after))) same.1 ∙ covers.noted name o (sym same.0 ∙ there)

-- the keys that are covered stay while the log grows
same_keys : {S : Type 0} (x : Node S) (more : List Entry) (port : ℕ) → x.covered ≤ length x.log
    → length (reach.keys port (x.copy ++ inputs_of (take x.covered x.log)))
    ≡ length (reach.keys port (x.copy ++ inputs_of (take x.covered (x.log ++ more))))
same_keys x more port within =
    ap (λ (es : List Entry). length (reach.keys port (x.copy ++ inputs_of es)))
    (sym (take-append-le x.covered x.log more within))

pub Covers-kept : {S : Type 0} (M : Machine S) (x : Node S) (c : Covering) (t : S) (left : List Note)
    (last : ℕ) (list : List Timed) (more : List Entry) → Covers M c x → x.covered ≤ length x.log
    → Keeps M x.machine c.notes t left → last ≡ reads_in (x.log ++ more)
    → Covers M (record c { notes = left; last_read = last })
    (record x { machine = t; list = list; log = x.log ++ more })
Covers-kept M x c t left last list more covers within keeps is_last = record {
  acknowledged = covers.acknowledged;
  reported = covers.reported;
  last_read = is_last;
  waits = covers.waits;
  keys = λ port is. covers.keys port is ∙ same_keys x more port within;
  noted = λ name o there. kept_noted M x c t left name o (keeps name) covers there;
  outstanding = λ name note is.
      kept_outstanding M x.machine t c.notes left name note (keeps name) covers.outstanding is;
}

-- ---- an operation comes

-- it has the new note, whatever note its name had before
abbrev pub noted_after : Covering → OpId → ℕ → Covering
noted_after c name index = after_note (after_forget c name) name index

pub new_note : (notes : List Note) (name : OpId) (index after : ℕ)
    → note_in (with_note (without_note notes name) name index after) name
    ≡ Some (record { id = name; index = index; after = after })
new_note notes name index after =
    (note_comes (without_note notes name) name index after).itself (note_goes notes name).itself

pub other_notes : (notes : List Note) (name other : OpId) (index after : ℕ) → other ≢ name
    → note_in (with_note (without_note notes name) name index after) other ≡ note_in notes other
other_notes notes name other index after differs =
    (note_comes (without_note notes name) name index after).others other differs
    ∙ (note_goes notes name).others other differs

pub AreOfOutstanding-noted : {S : Type 0} (M : Machine S) (s t : S) (c : Covering) (given : Operation) (index : ℕ)
    → ComesAndGoes M → M.step s ≡ Some (t, Some given) → AreOfOutstanding M s c
    → AreOfOutstanding M t (noted_after c (id_of given) index)
AreOfOutstanding-noted M s t c given index laws made before = λ name note is.
    let comes = laws.comes s t given made in
    ⊎_elim
    (λ same. (given, ap (M.find t) same ∙ comes.0))
    (λ differs.
    let there = before name note (sym (other_notes c.notes (id_of given) name index _ differs) ∙ is) in
    (there.0, comes.1 name differs ∙ there.1))
    (name_cases name (id_of given))

-- the note that the protocol makes of it
abbrev note_from : {S : Type 0} → Node S → Operation → protocol.Note
note_from x given = record { name = id_of given; index = length x.log; after = waits_for given x.log }

-- it waits for as much as the coverage notes
waits_alike : (c : Covering) (log : List Entry) (given : Operation) → c.last_read ≡ reads_in log
    → last_read_for c (id_of given) ≡ waits_for given log
waits_alike c log (operation.Byte port number byte) last = refl
waits_alike c log (operation.Write write) last = last

new_noted : {S : Type 0} (M : Machine S) (x : Node S) (c : Covering) (t : S) (given : Operation) (name : OpId)
    (o : Operation) → (M.find t (id_of given) ≡ Some given)
    × ((other : OpId) → other ≢ id_of given → M.find t other ≡ M.find x.machine other) → Covers M c x
    → M.find t name ≡ Some o → (name ≡ id_of given) ⊎ (name ≢ id_of given)
    → waits_of (noted_after c (id_of given) (length x.log)).notes name
    ≡ waits_in (note_of (notes_after x.notes x.log (Some given)) name)
new_noted M x c t given name o comes covers there (inl same) =
    let after = last_read_for c (id_of given) in
    ap (waits_of (noted_after c (id_of given) (length x.log)).notes) same
    ∙ ap (option_map (λ (n : Note). (n.index, n.after))) (new_note c.notes (id_of given) (length x.log) after)
    ∙ ap (λ n. Some (length x.log, n)) (waits_alike c x.log given covers.last_read)
    ∙ ap (λ b. waits_in (cond b (Some (note_from x given)) (note_of x.notes name)))
    (sym (ap (λ n. same_name n (id_of given)) same ∙ same_name-itself (id_of given)))
new_noted M x c t given name o comes covers there (inr differs) =
    ap (option_map (λ (n : Note). (n.index, n.after)))
    (other_notes c.notes (id_of given) name (length x.log) (last_read_for c (id_of given)) differs)
    ∙ covers.noted name o (sym (comes.1 name differs) ∙ there)
    ∙ ap (λ b. waits_in (cond b (Some (note_from x given)) (note_of x.notes name)))
    (sym (same_name-different name (id_of given) differs))

pub Covers-noted : {S : Type 0} (M : Machine S) (x : Node S) (c : Covering) (t : S) (given : Operation)
    → ComesAndGoes M → M.step x.machine ≡ Some (t, Some given) → Covers M c x → x.covered ≤ length x.log
    → Covers M (noted_after c (id_of given) (length x.log)) (primary_steps M x t (Some given))
Covers-noted M x c t given laws made covers within = record {
  acknowledged = covers.acknowledged;
  reported = covers.reported;
  last_read = covers.last_read ∙ sym (reads_without x.log (entry.Mark (M.count t)) refl);
  waits = covers.waits;
  keys = λ port is. covers.keys port is ∙ same_keys x (marks (M.count t) (Some given)) port within;
  noted = λ name o there.
      new_noted M x c t given name o (laws.comes x.machine t given made) covers there (name_cases name (id_of given));
  outstanding =
      AreOfOutstanding-noted M x.machine t c given (length x.log) laws made covers.outstanding;
}

-- ---- there is room for its note

-- each note is found under its name
found_itself : (notes : List Note) (k : ℕ) (d : Note) → k < length notes
    → (note : Note) × (note_in notes (get_or notes k d).id ≡ Some note)
found_itself [] k d within = let none : k < 0 = within in absurd (omega arith)
found_itself (note ∷ notes) zero d within =
    (note, ap (λ b. cond b (Some note) (note_in notes note.id)) (same_name-itself note.id))
found_itself (note ∷ notes) (suc k) d within =
    let later = found_itself notes k d (omega arith) in
    ⊎_elim
    (λ same. (note, ap (λ b. cond b (Some note) (note_in notes (get_or notes k d).id)) same))
    (λ differs. (later.0, ap (λ b. cond b (Some note) (note_in notes (get_or notes k d).id)) differs ∙ later.1))
    (cases_Bool (same_name note.id (get_or notes k d).id))

pub few_outstanding : {S : Type 0} (M : Machine S) (t : S) (c : Covering) (few : AreFew M t) → AreOfOutstanding M t c
    → AreNotesOf few.names c.notes
few_outstanding M t c few outstanding k d within =
    let found = found_itself c.notes k d within in
    let there = outstanding (get_or c.notes k d).id found.0 found.1 in
    few.all (get_or c.notes k d).id there.0 there.1

pub room_for_note : {S : Type 0} (M : Machine S) (t : S) (c : Covering) (name : OpId) (index : ℕ) → IsCovering c
    → AreFew M t → AreOfOutstanding M t (noted_after c name index) → length (after_forget c name).notes < PLACES
room_for_note M t c name index stands few outstanding =
    let left = without_note c.notes name in
    let after = last_read_for c name in
    let apart : AllPairs AreApart left = AllPairs-filter AreApart _ c.notes stands.apart in
    let all_apart = apart-with_note left name index after (note_goes c.notes name).itself apart in
    let notes : AreNotesOf few.names (with_note left name index after) =
    few_outstanding M t (noted_after c name index) few outstanding in
    let no_more = few_notes (with_note left name index after) few.names all_apart notes in
    let one_more = length-append left (record { id = name; index = index; after = after } ∷ []) in
    let limit = few.few in
    omega arith
