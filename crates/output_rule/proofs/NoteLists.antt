-- The notes as they are added and removed. If a name has no note, every note is of another name, so a new note for it is
-- apart from all others and is found after them. A filter leaves no note of the name, and leaves all others in order.
use Rattle.std.proofs.Common.{◌≡◌, ◌≢◌, ℕ, true, false, not, cond, List, [], ◌∷◌, Some, None, refl, sym, ap}
use Rattle.std.specs.Prelude.{All, AllPairs}
use Rattle.std.proofs.lemmas.List.Elements.{All-cons, All-nil}
use Rattle.std.proofs.lemmas.List.Quantifiers.{all_pairs_push}
use Rattle.event_callbacks.specs.declared.operations.OpId.{OpId}
use Rattle.event_callbacks.proofs.Names.{same_name-different, same_name-itself}
use Rattle.output_rule.specs.Laws.{Comes, Goes}
use Rattle.output_rule.specs.Notes.{same_name, note_in, with_note, without_note, AreApart}
use Rattle.output_rule.specs.declared.notes.Note.{Note}
use Rattle.output_rule.proofs.Names.{same_name-other}

-- if a name has no note, every note is of another name
unnoted : (notes : List Note) (id : OpId) → note_in notes id ≡ None → All (λ note. same_name note.id id ≡ false) notes
unnoted [] id none = All-nil (λ note. same_name note.id id ≡ false)
unnoted (note ∷ notes) id none =
    elim (same_name note.id id)
    as (λ b. same_name note.id id ≡ b → cond b (Some note) (note_in notes id) ≡ None
    → All (λ one. same_name one.id id ≡ false) (note ∷ notes)) [
      | true ↦ λ e some. absurd (cc)
      | false ↦ λ e rest. All-cons (λ one. same_name one.id id ≡ false) note notes e (unnoted notes id rest)
    ] refl none

-- a new note is apart from the others
pub apart-with_note : (notes : List Note) (id : OpId) (index after : ℕ) → note_in notes id ≡ None
    → AllPairs AreApart notes → AllPairs AreApart (with_note notes id index after)
apart-with_note notes id index after none apart =
    all_pairs_push AreApart notes (record { id = id; index = index; after = after }) apart (unnoted notes id none)

-- it is found after them
found_after : (notes : List Note) (id : OpId) (index after : ℕ) → note_in notes id ≡ None
    → note_in (with_note notes id index after) id ≡ Some (record { id = id; index = index; after = after })
found_after [] id index after none = rw (same_name-itself id) refl
found_after (note ∷ notes) id index after none =
    elim (same_name note.id id)
    as (λ b. cond b (Some note) (note_in notes id) ≡ None
    → cond b (Some note) (note_in (with_note notes id index after) id) ≡ Some (record { id = id; index = index; after = after })) [
      | true ↦ λ some. absurd (cc)
      | false ↦ λ rest. found_after notes id index after rest
    ] none

others_after : (notes : List Note) (id : OpId) (index after : ℕ) (other : OpId) → other ≢ id
    → note_in (with_note notes id index after) other ≡ note_in notes other
others_after [] id index after other differs =
    let differ = same_name-different id other (λ e. differs (sym e)) in rw differ refl
others_after (note ∷ notes) id index after other differs =
    ap (λ rest. cond (same_name note.id other) (Some note) rest) (others_after notes id index after other differs)

pub note_comes : (notes : List Note) (id : OpId) (index after : ℕ) → Comes notes id index after
note_comes notes id index after = record {
  itself = found_after notes id index after;
  others = others_after notes id index after;
}

none_left : (notes : List Note) (id : OpId) → note_in (without_note notes id) id ≡ None
none_left [] id = refl
none_left (note ∷ notes) id =
    elim (same_name note.id id)
    as (λ b. same_name note.id id ≡ b
    → note_in (cond (not b) (note ∷ without_note notes id) (without_note notes id)) id ≡ None) [
      | true ↦ λ e. none_left notes id
      | false ↦ λ e. rw e (none_left notes id)
    ] refl

others_left : (notes : List Note) (id other : OpId) → other ≢ id
    → note_in (without_note notes id) other ≡ note_in notes other
others_left [] id other differs = refl
others_left (note ∷ notes) id other differs =
    elim (same_name note.id id)
    as (λ b. same_name note.id id ≡ b
    → note_in (cond (not b) (note ∷ without_note notes id) (without_note notes id)) other
    ≡ note_in (note ∷ notes) other) [
      | true ↦ λ e. rw (same_name-other note.id id other e differs) (others_left notes id other differs)
      | false ↦ λ e.
          ap (λ rest. cond (same_name note.id other) (Some note) rest) (others_left notes id other differs)
    ] refl

pub note_goes : (notes : List Note) (id : OpId) → Goes notes id
note_goes notes id = record { itself = none_left notes id; others = others_left notes id }
