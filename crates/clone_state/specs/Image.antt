-- What an image keeps of a board, and each of its parts in bytes.
use Rattle.std.specs.Prelude.{◌≡◌, ℕ, ◌*◌, List, length, slice_get, option_map, Option, Some, None, Result, Err, MatchResult}
use Rattle.std.specs.Global.{Vec}
use Rattle.i8080_words.specs.declared.refusal.Fault.{Fault}
use Rattle.i8080_words.specs.declared.refusal.Fault.TheVariants.{OutOfMemory, Unknown}
use Rattle.disk_dcdd.specs.declared.address.TheConstants.{DRIVE_SECTORS}
use Rattle.guest_parts.specs.Guest.{Guest}
use Rattle.guest_parts.specs.declared.parts.BoardParts.{BoardParts}
use Rattle.clone_state.specs.Checkpoint.{checkpoint_in_parts, checkpoint_of}
use Rattle.clone_state.specs.Parts.{message_bytes, parts_of}

-- what a board shows: the checkpoint of its guest, with a number for each sector of its drives
pub record IsCopyOf (g : Guest) (p : BoardParts) : Type 0 where
  pub shown : checkpoint_in_parts p ≡ checkpoint_of g
  pub sectors : length p.completed.items ≡ p.devices.disk.attached * DRIVE_SECTORS

-- a part of this generation and index
abbrev pub part_bytes : ℕ → ℕ → List ℕ → List ℕ
part_bytes generation index payload =
    message_bytes (record { generation = generation; index = index; payload = payload })

-- the part of this index of a guest's image, if the image has one
abbrev pub part_at : Guest → ℕ → ℕ → Option (List ℕ)
part_at guest generation index =
    option_map (part_bytes generation index) (slice_get (parts_of (checkpoint_of guest)) index)

-- the bytes of the part, if there is one
abbrev pub Spells : Option (List ℕ) → Result (Vec ℕ) Fault → Type 0
Spells None result = result ≡ Err Unknown
Spells (Some part) result = MatchResult result (λ bytes. bytes.items ≡ part) (λ fault. fault ≡ OutOfMemory)
