-- What passes between the devices and the user: bytes that a terminal has accepted, and keys that were typed at one.
use Rattle.std.specs.Prelude.{◌≡◌, ℕ, ◌==◌, if◌then◌else◌, List, [], ◌∷◌, ◌++◌, Result, Ok, Err}
use Rattle.host_law.specs.Frame.{Act, Frame}
use Rattle.i8080_words.specs.declared.refusal.Fault.{Fault}
use Rattle.outside_switch.specs.DeviceCalls.{is_accepted}
use Rattle.outside_switch.specs.Held.{Held}
use Rattle.outside_switch.specs.Calls as calls
use Rattle.outside_switch.specs.Calls.{Call, Called}
use Rattle.outside_switch.specs.declared.heard.BodyOutcome.{BodyOutcome}
use Rattle.outside_switch.specs.declared.heard.BodyOutcome.TheVariants as heard

pub data Passed : Type 0 where
  Shown : (port byte : ℕ) → Passed
  Typed : (port byte : ℕ) → Passed

-- the bytes that the terminal of a port has accepted, and the keys that were typed at it
abbrev pub shown_at : ℕ → List Passed → List ℕ
shown_at at [] = []
shown_at at (Shown port byte ∷ passed) = if port == at then byte ∷ shown_at at passed else shown_at at passed
shown_at at (Typed port byte ∷ passed) = shown_at at passed

abbrev pub typed_at : ℕ → List Passed → List ℕ
typed_at at [] = []
typed_at at (Shown port byte ∷ passed) = typed_at at passed
typed_at at (Typed port byte ∷ passed) = if port == at then byte ∷ typed_at at passed else typed_at at passed

-- what passes by one call, and by several
abbrev pub passed_by_call : {held new : Held} {act : Act} → Call held new act → List Passed
passed_by_call (calls.TypesKey port byte index is left) = Typed port byte ∷ []
passed_by_call {held = held} (calls.TakesByte port number byte room left) =
    if is_accepted held.terminals port number room then Shown port byte ∷ [] else []
passed_by_call _ = []

abbrev pub passed_by_calls : {first last : Held} {read written : List Frame} → Called first read written last → List Passed
passed_by_calls calls.Rests = []
passed_by_calls (calls.Goes new act before call) = passed_by_calls before ++ passed_by_call call

pub record CalledWith (passed : List Passed) (first : Held) (read written : List Frame) (last : Held) : Type 0 where
  pub called : Called first read written last
  pub passes : passed_by_calls called ≡ passed

-- what was heard of a host, if it is a byte that is to be shown; a key that was typed, unless it was refused
abbrev pub passed_of : BodyOutcome → List Passed
passed_of (heard.Shown port byte) = Shown port byte ∷ []
passed_of _ = []

abbrev pub typed_of : Result ℕ Fault → ℕ → ℕ → List Passed
typed_of (Ok index) port byte = Typed port byte ∷ []
typed_of (Err why) port byte = []
