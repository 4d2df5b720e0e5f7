-- The log of a generation: the entries that are kept, and the index of the first of them.
use Rattle.std.specs.Prelude.{ℕ, ◌+◌, ◌-◌, ◌≤◌, ◌==◌, nat_lt, max, if◌then◌else◌, List, [], ◌∷◌, ◌++◌, length, drop, slice_get, Option, Some, None, is_none}
use Rattle.i8080_words.specs.declared.refusal.Fault.{Fault}
use Rattle.i8080_words.specs.declared.refusal.Fault.TheVariants.{LogFull, Spent}
use Rattle.log_buffer.specs.Logs.{Logging}
use Rattle.log_entry.specs.declared.entry.Entry.{Entry}
use Rattle.log_buffer.specs.declared.buffer.TheConstants.{CAPACITY}
use Rattle.i8080_words.specs.declared.limits.TheConstants.{GREATEST_NUMBER}

-- consecutive entries, the first of them at this index
pub record Log : Type 0 where
  pub first : ℕ
  pub entries : List Entry

abbrev pub log : ℕ → List Entry → Log
log first entries = record { first = first; entries = entries }

-- the index that the next entry will have
abbrev pub next_of : Log → ℕ
next_of l = l.first + length l.entries

-- the entry of an index, if it is kept
abbrev pub kept_at : Log → ℕ → Option Entry
kept_at l index = if nat_lt index l.first then None else slice_get l.entries (index - l.first)

-- what holds of every log
pub record IsWithinLimits (l : Log) : Type 0 where
  pub few : length l.entries ≤ CAPACITY
  pub next : next_of l ≤ GREATEST_NUMBER

-- why no entry can be pushed: the log is full, or its last index is used
abbrev pub refusal_of : Log → Option Fault
refusal_of l =
    if length l.entries == CAPACITY
    then Some LogFull
    else (if next_of l == GREATEST_NUMBER then Some Spent else None)

-- with an entry after the others
abbrev pub pushed : Log → Entry → Log
pushed l entry = log l.first (l.entries ++ entry ∷ [])

-- what it does with an entry that comes after the others
abbrev pub kept : Logging Log
kept = record { refusal = refusal_of; next = next_of; pushed = pushed }

-- a refusal changes nothing
abbrev pub after_push : Log → Entry → Log
after_push l entry = if is_none (refusal_of l) then pushed l entry else l

-- without the entries below an index
abbrev pub dropped_to : Log → ℕ → Log
dropped_to l index = log (max l.first index) (drop (index - l.first) l.entries)
