-- What is gathered of one image, in any order, with parts that are lost or repeated.
use Rattle.std.specs.Prelude.{◌≡◌, ◌↔◌, ℕ, ◌<◌, IsTrue, List, length, slice_get, slice_index_or, is_some, Some, None}
use Rattle.guest_parts.specs.Guest.{Guest}
use Rattle.clone_state.specs.Assembly.{Gathering, Slots, after_part, gathered, is_whole, machine_in, nothing_gathered}
use Rattle.clone_state.specs.Checkpoint.{checkpoint_of}
use Rattle.clone_state.specs.Laws.{IsCopyable}
use Rattle.clone_state.specs.Parts.{PartMessage, message_at, part_count, parts_of}

-- each part that arrived is the image's part of that index
pub record AreOf (parts : List (List ℕ)) (slots : Slots) : Type 0 where
  pub long : length slots ≡ length parts
  pub each : (index : ℕ) (payload : List ℕ) → slice_get slots index ≡ Some (Some payload)
      → slice_get parts index ≡ Some payload

-- a message that is taken for a part of the generation is the image's part of its index
abbrev pub IsOfImage : Gathering → List (List ℕ) → List ℕ → Type 0
IsOfImage g parts bytes = (m : PartMessage) → message_at g.drives bytes ≡ Some m → m.generation ≡ g.generation
    → slice_get parts m.index ≡ Some m.payload

-- that holds before any part arrived, and after each message that arrives
abbrev pub BeginsOfImage : Type 0
BeginsOfImage = (parts : List (List ℕ)) (generation drives : ℕ) → length parts ≡ part_count drives
    → AreOf parts (nothing_gathered generation drives (part_count drives)).slots

abbrev pub StaysOfImage : Type 0
StaysOfImage = (parts : List (List ℕ)) (g : Gathering) (bytes : List ℕ) → AreOf parts g.slots
    → IsOfImage g parts bytes → AreOf parts (after_part g bytes).slots

-- it is whole exactly when every part arrived
abbrev pub IsWholeWhenAllCame : Type 0
IsWholeWhenAllCame = (slots : Slots) → IsTrue (is_some (gathered slots))
    ↔ ((index : ℕ) → index < length slots → IsTrue (is_some (slice_index_or slots index None)))

-- and then it makes the machine of the image
abbrev pub WholeMakesIt : Type 0
WholeMakesIt = (machine : Guest) (g : Gathering) → IsCopyable machine → g.drives ≡ machine.devices.disk.attached
    → AreOf (parts_of (checkpoint_of machine)) g.slots → IsTrue (is_whole g) → machine_in g ≡ Some machine
