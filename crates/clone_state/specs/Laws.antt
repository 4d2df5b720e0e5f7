-- What code that sends or gathers parts may rely on: an image makes its machine again, and each part is written in one way.
use Rattle.std.specs.Prelude.{◌≡◌, ◌⊎◌, ℕ, ◌+◌, ◌*◌, ◌<◌, ◌≤◌, ◌^◌, true, Some, List, ◌∷◌, All, is_some, length, map, slice_get}
use Rattle.serial_2sio.specs.Port as serial
use Rattle.disk_dcdd.specs.Controller.{IsDrives}
use Rattle.disk_dcdd.specs.Sector.{place_of}
use Rattle.disk_dcdd.specs.declared.sector.SectorWrite.{SectorWrite}
use Rattle.disk_dcdd.specs.declared.sector.TheConstants.{SECTOR_BYTES}
use Rattle.event_callbacks.specs.Completions.{port_of}
use Rattle.event_callbacks.specs.Operations.{operation_at}
use Rattle.event_callbacks.specs.declared.operations.OpId.TheVariants as id
use Rattle.event_callbacks.specs.declared.operations.Operation.TheVariants as operation
use Rattle.guest_parts.specs.Board.{IsBoard}
use Rattle.guest_parts.specs.Guest.{Guest}
use Rattle.guest_parts.specs.Parts.{guest_of_parts, stands}
use Rattle.guest_parts.specs.declared.parts.BoardParts.{BoardParts}
use Rattle.guest_memory.specs.declared.memory.TheConstants.{BYTES}
use Rattle.log_entry.specs.Numbers.{IsBytes}
use Rattle.clone_state.specs.Checkpoint.{Checkpoint, FirstPart, checkpoint_in_parts, checkpoint_of, guest_of}
use Rattle.clone_state.specs.FirstPart.{first, spelling_01}
use Rattle.clone_state.specs.Parts.{PartMessage, checkpoint_in, first_in, guest_in, is_payload, later_parts, message_at, message_bytes, part_count, parts_of}
use Rattle.clone_state.specs.Possible.{fits_together, is_possible, may_halt}

-- ---- an image makes its machine again

-- a guest that meets the invariant of boards, whose tables have the lengths of a board's, and that is not halted while it
-- waits for the instruction after EI
pub record IsCopyable (g : Guest) : Type 0 where
  pub versions : List ℕ
  pub board : IsBoard g versions
  pub disk : IsDrives g.devices.disk
  pub window : (port : ℕ) → (port_of g.devices port).unaccepted ≤ serial.window
  pub memory : length g.memory ≡ BYTES
  pub levels : length g.levels ≡ 3
  pub writes : (write : SectorWrite)
      → operation_at g.operations (id.Write write.number) ≡ Some (operation.Write write)
      → length write.bytes ≡ SECTOR_BYTES
  pub awake : may_halt g.processor ≡ true

-- what the image says of it makes it
abbrev pub SaysItAll : Type 0
SaysItAll = (g : Guest) → IsCopyable g → guest_of (checkpoint_of g) ≡ g

-- the parts make it
abbrev pub PartsMakeIt : Type 0
PartsMakeIt = (g : Guest) → IsCopyable g → guest_in g.devices.disk.attached (parts_of (checkpoint_of g)) ≡ Some g

-- so do the parts with the first in version 01, if no port has more than one unaccepted byte
abbrev pub HasOneByte : Guest → Type 0
HasOneByte g = (port : ℕ) → (port_of g.devices port).unaccepted ≤ 1

abbrev pub OldPartsMakeIt : Type 0
OldPartsMakeIt = (g : Guest) → IsCopyable g → HasOneByte g
    → guest_in g.devices.disk.attached (spelling_01 (checkpoint_of g).first ∷ later_parts (checkpoint_of g)) ≡ Some g

-- there are as many parts as an image has
abbrev pub PartsAreCounted : Type 0
PartsAreCounted = (c : Checkpoint) → length (parts_of c) ≡ part_count c.first.devices.disk.attached

-- the first part has 148 bytes for each outstanding write and 261 others, and each other part has 256
pub record HasSize (c : Checkpoint) : Type 0 where
  pub first : length (first.spell c.first) ≡ 261 + 148 * length c.first.writes
  pub later : All (λ part. length part ≡ 256) (later_parts c)

abbrev pub PartsHaveSizes : Type 0
PartsHaveSizes = (g : Guest) → IsCopyable g → HasSize (checkpoint_of g)

-- ---- each part is written in one way

-- the first part is what it says, in version 02 or in version 01
abbrev pub IsFirstPart : FirstPart → List ℕ → Type 0
IsFirstPart f payload = (payload ≡ first.spell f) ⊎ (payload ≡ spelling_01 f)

abbrev pub FirstIsWrittenSo : Type 0
FirstIsWrittenSo = (drives : ℕ) (payload : List ℕ) (f : FirstPart) → IsBytes payload
    → first_in drives payload ≡ Some f → IsFirstPart f payload

-- the parts are those that are written of what they say, except that the first may be in version 01
abbrev pub AreParts : Checkpoint → List (List ℕ) → Type 0
AreParts c parts = (parts ≡ parts_of c) ⊎ (parts ≡ spelling_01 c.first ∷ later_parts c)

-- a board of this many drives can be in the state
pub record FitsBoard (drives : ℕ) (c : Checkpoint) : Type 0 where
  pub attached : c.first.devices.disk.attached ≡ drives
  pub possible : is_possible c.first ≡ true
  pub count : c.first.count < 2 ^ 62
  pub writes : map place_of c.first.writes ≡ c.first.devices.disk.outstanding
  pub fits : fits_together c ≡ true

-- parts that are read are those of what they say, and a board can be in that state
pub record AreRead (drives : ℕ) (parts : List (List ℕ)) (c : Checkpoint) : Type 0 where
  pub written : AreParts c parts
  pub state : FitsBoard drives c

abbrev pub PartsAreWrittenSo : Type 0
PartsAreWrittenSo = (drives : ℕ) (parts : List (List ℕ)) (c : Checkpoint) → All IsBytes parts
    → checkpoint_in drives parts ≡ Some c → AreRead drives parts c

-- ---- what is read can be rebuilt

-- the parts of a board that say it pass the board's own tests, and describe the machine that the image makes
abbrev pub BoardsCanBeRebuilt : Type 0
BoardsCanBeRebuilt = (drives : ℕ) (p : BoardParts) → FitsBoard drives (checkpoint_in_parts p)
    → (stands p ≡ true) × (guest_of_parts p ≡ guest_of (checkpoint_in_parts p))

-- ---- each message is written in one way

-- the generation and the index fit their places, and the payload is one of that index
pub record IsMessage (drives : ℕ) (m : PartMessage) : Type 0 where
  pub some : 0 < m.generation
  pub few : m.generation < 2 ^ 32
  pub payload : is_payload drives m.index m.payload ≡ true

abbrev pub MessageIsReadAgain : Type 0
MessageIsReadAgain = (drives : ℕ) (m : PartMessage) → IsMessage drives m → message_at drives (message_bytes m) ≡ Some m

-- each of the parts that make a guest is read again, in a message of any generation
abbrev pub PartsAreReadAgain : Type 0
PartsAreReadAgain =
    (drives generation index : ℕ) (parts : List (List ℕ)) (payload : List ℕ) → is_some (guest_in drives parts) ≡ true
    → 0 < generation → generation < 2 ^ 32 → slice_get parts index ≡ Some payload
    → message_at drives (message_bytes (record { generation = generation; index = index; payload = payload }))
    ≡ Some (record { generation = generation; index = index; payload = payload })

-- a part that is read has an index of the image
abbrev pub IndexesAreWithin : Type 0
IndexesAreWithin =
    (drives : ℕ) (bytes : List ℕ) (m : PartMessage) → message_at drives bytes ≡ Some m → m.index < part_count drives

abbrev pub MessageIsWrittenSo : Type 0
MessageIsWrittenSo = (drives : ℕ) (bytes : List ℕ) (m : PartMessage) → IsBytes bytes
    → message_at drives bytes ≡ Some m → IsMessage drives m × (bytes ≡ message_bytes m)
