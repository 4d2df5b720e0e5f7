-- What users of a coverage may rely on.
use Rattle.std.specs.Prelude.{◌≡◌, ◌≢◌, ℕ, ◌+◌, ◌<◌, ◌≤◌, true, List, All, Contains, length, take, slice_index, Option, Some, None}
use Rattle.event_callbacks.specs.declared.devices.TheConstants.{PORTS}
use Rattle.event_callbacks.specs.declared.operations.OpId.{OpId}
use Rattle.log_buffer.specs.Log.{Log}
use Rattle.log_entry.specs.declared.entry.Entry.{Entry}
use Rattle.output_rule.specs.Covering.{Covering, is_covered, after_acknowledge, after_all}
use Rattle.output_rule.specs.Keys.{keys_in}
use Rattle.output_rule.specs.Notes.{note_in, with_note, without_note}
use Rattle.output_rule.specs.declared.notes.Note.{Note}

-- a new note is found under its name, and every other name has what it had
pub record Comes (notes : List Note) (id : OpId) (index after : ℕ) : Type 0 where
  pub itself : note_in notes id ≡ None
      → note_in (with_note notes id index after) id ≡ Some (record { id = id; index = index; after = after })
  pub others : (other : OpId) → other ≢ id → note_in (with_note notes id index after) other ≡ note_in notes other

-- a forgotten name has no note, and every other name has what it had
pub record Goes (notes : List Note) (id : OpId) : Type 0 where
  pub itself : note_in (without_note notes id) id ≡ None
  pub others : (other : OpId) → other ≢ id → note_in (without_note notes id) other ≡ note_in notes other

-- each note is of one of these operations
abbrev pub AreNotesOf : List OpId → List Note → Type 0
AreNotesOf names notes = All (λ note. Contains names note.id) notes

-- what was covered is covered
pub record StaysCovered (old new : Covering) : Type 0 where
  pub acknowledged : old.acknowledged ≤ new.acknowledged
  pub reported : old.reported ≤ new.reported
  pub covered : (index : Option ℕ) → is_covered old index ≡ true → is_covered new index ≡ true

-- neither an acknowledgement nor the end of the wait for one takes anything back
pub record NeverFalls (c : Covering) : Type 0 where
  pub by_acknowledgement : (log : Log) (held replayed : ℕ) → StaysCovered c (after_acknowledge c log held replayed)
  pub by_all : (keys : List ℕ) → StaysCovered c (after_all c keys)
  pub keys : (log : Log) (held replayed port : ℕ) → port < PORTS
      → slice_index c.keys port ≤ slice_index (after_acknowledge c log held replayed).keys port

-- of all entries since an image, the keys of those that are acknowledged are covered, and so are the keys of the image
pub record Tells (image : List ℕ) (entries : List Entry) (c : Covering) : Type 0 where
  pub within : c.acknowledged ≤ length entries
  pub keys : (port : ℕ) → port < PORTS
      → slice_index c.keys port ≡ slice_index image port + keys_in port (take c.acknowledged entries)
