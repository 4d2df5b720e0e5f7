-- What a user has typed at one port, and which keys go to the live host.
use Rattle.std.specs.Prelude.{◌≡◌, ◌⊎◌, ◌<◌, ◌≤◌, ◌+◌, max, ℕ, true, false, List, [], ◌∷◌, ◌++◌, None}
use Rattle.outside_switch.specs.DeviceCalls.{key_answer}
use Rattle.outside_switch.specs.Goes.{GoesWith, SendsKey}
use Rattle.outside_switch.specs.Meets.{Seen}
use Rattle.outside_switch.specs.Passing.{Passed, Typed}
use Rattle.console_terminal.specs.Lines.{IsSameEnd, found, heard}
use Rattle.outside_switch.specs.declared.port.PortEnd.{PortEnd}

-- the keys that were typed at the terminal are those that came from the keyboard, in order and each once: one may wait, since
-- the terminal keeps as many as it can
pub record Types (typed : List ℕ) (old new : PortEnd) : Type 0 where
  pub same : IsSameEnd old.keyboard.ring new.keyboard.ring
  pub came : List ℕ
  pub heard_are : heard new.keyboard ≡ heard old.keyboard ++ came
  pub typed_are : found old.waiting ++ came ≡ typed ++ found new.waiting

-- nothing was typed
pub record Rests (old new : PortEnd) : Type 0 where
  pub keyboard : new.keyboard ≡ old.keyboard
  pub waiting : new.waiting ≡ old.waiting

-- keys were typed at the terminal of a port, and nothing else was done
abbrev pub typings : ℕ → List ℕ → List Passed
typings port [] = []
typings port (key ∷ keys) = Typed port key ∷ typings port keys

pub record TypesKeys (port : ℕ) (old new : PortEnd) (before after : Seen) : Type 0 where
  pub keys : List ℕ
  pub goes : GoesWith (typings port keys) before after
  pub types : Types keys old new

-- ---- which keys go to the live host

-- the live host has taken so many keys, and those after them are sent to it next
pub record BeginsAt (taken : ℕ) (port : PortEnd) : Type 0 where
  pub taken_are : port.taken ≡ taken
  pub next_is : port.next ≡ taken

-- the live host says that it has taken so many: the key that is sent next is the same, or the first that was not taken
pub record HearsTaken (taken : ℕ) (old new : PortEnd) : Type 0 where
  pub taken_are : new.taken ≡ max old.taken taken
  pub next_is : (new.next ≡ old.next) ⊎ (new.next ≡ new.taken)
  pub past : new.taken ≤ new.next
  pub typed_are : new.typed ≡ old.typed

-- a key was typed and is sent to the host at a place; the one after it is next
pub record SendsNext (place port : ℕ) (old new : PortEnd) (before after : Seen) : Type 0 where
  pub was_typed : old.next < old.typed
  pub sends : SendsKey (key_answer before.devices.terminals port old.next) place port old.next true before.lines after.lines
  pub next_is : new.next ≡ old.next + 1
  pub taken_are : new.taken ≡ old.taken
  pub typed_are : new.typed ≡ old.typed

-- no more keys can come from a port, and the live host has taken all that came
pub record IsOver (port : PortEnd) : Type 0 where
  pub closed : port.keyboard.open ≡ false
  pub none : port.waiting ≡ None
  pub all : port.typed ≤ port.taken
