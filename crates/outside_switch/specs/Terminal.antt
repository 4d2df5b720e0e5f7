-- A terminal of which only what is still needed is kept, and what each call leaves of it.
use Rattle.std.specs.Prelude.{ℕ, ◌+◌, ◌-◌, ◌≤◌, ◌==◌, Bool, nat_lt, max, min, if◌then◌else◌, List, [], ◌∷◌, ◌++◌, length, drop, slice_get, Option, Some, None, is_none, Result, Ok, Err}
use Rattle.i8080_words.specs.declared.limits.TheConstants.{GREATEST_NUMBER}
use Rattle.i8080_words.specs.declared.refusal.Fault.{Fault}
use Rattle.i8080_words.specs.declared.refusal.Fault.TheVariants.{NotCovered, Spent}
use Rattle.outside_switch.specs.declared.terminal.TheConstants.{KEYS}

-- how many bytes it has accepted; the keys that are kept, of which the first was typed at this index; and the greatest
-- number of keys that it was told are covered
pub record KeptTerminal : Type 0 where
  pub accepted : ℕ
  pub first : ℕ
  pub keys : List ℕ
  pub told : ℕ

-- nothing has arrived, nothing was typed or told
abbrev pub blank : KeptTerminal
blank = record { accepted = 0; first = 0; keys = []; told = 0 }

-- how many keys were typed, which is the index of the next one
abbrev pub next_key : KeptTerminal → ℕ
next_key t = t.first + length t.keys

-- what holds of every one
pub record IsWithinLimits (t : KeptTerminal) : Type 0 where
  pub few : length t.keys ≤ KEYS
  pub next : next_key t ≤ GREATEST_NUMBER

-- the byte of this number is the next one after those accepted
abbrev pub comes_next : KeptTerminal → ℕ → Bool
comes_next t number = number == t.accepted + 1

-- the byte that comes next is accepted, and any other is dropped
abbrev pub after_arrival : KeptTerminal → ℕ → KeptTerminal
after_arrival t number = if comes_next t number then record t { accepted = t.accepted + 1 } else t

-- why no key can be typed: as many are kept as can be, or the last index is used
abbrev pub typing_refusal : KeptTerminal → Option Fault
typing_refusal t =
    if length t.keys == KEYS
    then Some NotCovered
    else (if next_key t == GREATEST_NUMBER then Some Spent else None)

-- a value, or why there is none
abbrev pub answered : {A : Type 0} → Option Fault → A → Result A Fault
answered None value = Ok value
answered (Some fault) value = Err fault

-- the index of a key that is typed
abbrev pub typing_answer : KeptTerminal → Result ℕ Fault
typing_answer t = answered (typing_refusal t) (next_key t)

-- with a key after the others
abbrev pub with_key : KeptTerminal → ℕ → KeptTerminal
with_key t byte = record t { keys = t.keys ++ byte ∷ [] }

-- a refusal changes nothing
abbrev pub after_typing : KeptTerminal → ℕ → KeptTerminal
after_typing t byte = if is_none (typing_refusal t) then with_key t byte else t

-- the key of an index, if it is kept
abbrev pub key_of : KeptTerminal → ℕ → Option ℕ
key_of t index = if nat_lt index t.first then None else slice_get t.keys (index - t.first)

-- how many of the keys that are kept are among the first ones
abbrev pub covered_of : KeptTerminal → ℕ → ℕ
covered_of t keys = min (keys - t.first) (length t.keys)

-- the keys that are covered are forgotten, and the greatest number told is kept
abbrev pub after_telling : KeptTerminal → ℕ → KeptTerminal
after_telling t keys = record {
  accepted = t.accepted;
  first = t.first + covered_of t keys;
  keys = drop (covered_of t keys) t.keys;
  told = max t.told keys;
}
