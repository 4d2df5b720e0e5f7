-- The notes of outstanding operations: the index in the log of the mark of each, and what else it waits for.
use Rattle.std.specs.Prelude.{◌≡◌, ℕ, false, not, ◌==◌, if◌then◌else◌, List, [], ◌∷◌, ◌++◌, filter, Option, Some, None}
pub use Rattle.event_callbacks.specs.Operations.{same_name}
use Rattle.event_callbacks.specs.declared.operations.OpId.{OpId}
use Rattle.event_callbacks.specs.declared.operations.OpId.TheVariants.{Write}
use Rattle.output_rule.specs.declared.notes.Note.{Note}

-- what is in a place that holds no note
abbrev pub blank : Note
blank = record { id = Write 0; index = 0; after = 0 }

-- an operation's note, if it has one
abbrev pub note_in : List Note → OpId → Option Note
note_in [] id = None
note_in (note ∷ notes) id = if same_name note.id id then Some note else note_in notes id

-- how many entries must be replayed for what is noted at an index
abbrev pub after_at : List Note → ℕ → ℕ
after_at [] index = 0
after_at (note ∷ notes) index = if note.index == index then note.after else after_at notes index

-- an operation's note is added, and removed
abbrev pub with_note : List Note → OpId → ℕ → ℕ → List Note
with_note notes id index after = notes ++ record { id = id; index = index; after = after } ∷ []

abbrev pub without_note : List Note → OpId → List Note
without_note notes id = filter (λ note. not (same_name note.id id)) notes

-- two notes are of different operations
abbrev pub AreApart : Note → Note → Type 0
AreApart one other = same_name one.id other.id ≡ false
