-- What is covered: how far the log is acknowledged, where the outstanding operations are in it, and how many keys.
use Rattle.std.specs.Prelude.{◌≡◌, ℕ, ◌+◌, ◌≤◌, max, nat_lt, nat_le, Bool, true, false, ◌&&◌, ◌||◌, if◌then◌else◌, List, [], length, slice_index, AllPairs, Option, Some, None, Result, Ok, Err}
use Rattle.i8080_words.specs.declared.limits.TheConstants.{GREATEST_NUMBER}
use Rattle.event_callbacks.specs.declared.devices.TheConstants.{PORTS}
use Rattle.event_callbacks.specs.declared.operations.OpId.{OpId}
use Rattle.event_callbacks.specs.declared.operations.OpId.TheVariants as id
use Rattle.i8080_words.specs.declared.refusal.Fault.{Fault}
use Rattle.i8080_words.specs.declared.refusal.Fault.TheVariants.{NotCovered}
use Rattle.log_buffer.specs.Log.{Log}
use Rattle.output_rule.specs.Keys.{between, with_keys}
use Rattle.output_rule.specs.Notes.{after_at, note_in, with_note, without_note, AreApart}
use Rattle.output_rule.specs.declared.notes.TheConstants.{PLACES}
use Rattle.output_rule.specs.declared.notes.Note.{Note}

-- the entries below this index are acknowledged, and this many are reported as replayed, or all is covered; the last read
-- of the log is just before this index; this many keys of each port are covered; and the operations that are outstanding
-- and not part of the image have these notes
pub record Covering : Type 0 where
  pub acknowledged : ℕ
  pub reported : ℕ
  pub last_read : ℕ
  pub all : Bool
  pub keys : List ℕ
  pub notes : List Note

-- at first the keys of the image are covered
abbrev pub nothing_acknowledged : List ℕ → Covering
nothing_acknowledged keys = record {
  acknowledged = 0;
  reported = 0;
  last_read = 0;
  all = false;
  keys = keys;
  notes = [];
}

-- an index is covered if it is acknowledged and this many entries are reported as replayed
abbrev pub covers : Covering → ℕ → ℕ → Bool
covers c index after = c.all || nat_lt index c.acknowledged && nat_le after c.reported

-- whether what is at an index is covered, with what is noted there; what has no index was part of the image
abbrev pub is_covered : Covering → Option ℕ → Bool
is_covered c None = true
is_covered c (Some index) = covers c index (after_at c.notes index)

-- an operation is released only when its note is covered; what has none was part of the image
abbrev pub is_noted_covered : Covering → Option Note → Bool
is_noted_covered c None = true
is_noted_covered c (Some note) = covers c note.index note.after

abbrev pub release_answer : Covering → OpId → Result (Unit {0}) Fault
release_answer c id = if is_noted_covered c (note_in c.notes id) then Ok tt else Err NotCovered

-- a write waits for the reads before it, a byte for none
abbrev pub last_read_for : Covering → OpId → ℕ
last_read_for c (id.Byte port number) = 0
last_read_for c (id.Write number) = c.last_read

-- an operation's note is added, and removed
abbrev pub after_note : Covering → OpId → ℕ → Covering
after_note c id index = record c { notes = with_note c.notes id index (last_read_for c id) }

abbrev pub after_forget : Covering → OpId → Covering
after_forget c id = record c { notes = without_note c.notes id }

-- a read is logged at an index
abbrev pub after_read : Covering → ℕ → Covering
after_read c index = record c { last_read = index + 1 }

-- an acknowledgement covers the entries up to it, and their keys if not all was covered before
abbrev pub after_acknowledge : Covering → Log → ℕ → ℕ → Covering
after_acknowledge c log held replayed = record c {
  acknowledged = max c.acknowledged held;
  reported = max c.reported replayed;
  keys = if c.all then c.keys else with_keys c.keys (between log c.acknowledged held);
}

-- all is covered, now and later
abbrev pub after_all : Covering → List ℕ → Covering
after_all c keys = record c { all = true; keys = keys }

-- what holds of every coverage: an operation has at most one note, and of a port no more keys are covered than a guest
-- may have taken at the start, and one for each acknowledged entry
pub record IsCovering (c : Covering) : Type 0 where
  pub few : length c.notes ≤ PLACES
  pub apart : AllPairs AreApart c.notes
  pub acknowledged : c.acknowledged ≤ GREATEST_NUMBER
  pub ports : length c.keys ≡ PORTS
  pub keys : (port : ℕ) → slice_index c.keys port ≤ GREATEST_NUMBER + c.acknowledged
