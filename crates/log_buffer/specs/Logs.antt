-- What a log does with an entry that comes after the others.
use Rattle.std.specs.Prelude.{ℕ, Option, Some, None, Result, Ok, Err}
use Rattle.i8080_words.specs.declared.refusal.Fault.{Fault}
use Rattle.log_entry.specs.declared.entry.Entry.{Entry}

pub record Logging (L : Type 0) : Type 0 where
  -- why it takes no entry now
  pub refusal : L → Option Fault
  -- the index that the next entry will have
  pub next : L → ℕ
  -- with an entry after the others
  pub pushed : L → Entry → L

-- a value, or why there is none
abbrev pub answered : {A : Type 0} → Option Fault → A → Result A Fault
answered None value = Ok value
answered (Some fault) value = Err fault

-- whether an entry can be pushed, and the index of one that is
abbrev pub room_answer : {L : Type 0} → Logging L → L → Result (Unit {0}) Fault
room_answer K l = answered (K.refusal l) tt

abbrev pub push_answer : {L : Type 0} → Logging L → L → Result ℕ Fault
push_answer K l = answered (K.refusal l) (K.next l)

-- what keeps nothing takes any entry
abbrev pub keeps_nothing : {L : Type 0} → Logging L
keeps_nothing = record { refusal = λ _. None; next = λ _. 0; pushed = λ l _. l }
