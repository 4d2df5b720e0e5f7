-- The slots in which the blocks of a stream lie.
use Rattle.std.specs.Prelude.{◌≡◌, ◌⊎◌, ℕ, List, [], length, slice_get, Option, Some, None}
use Rattle.host_frames.specs.Blocks.{Blocks}

-- what a slot has, if it is there
abbrev pub in_slot : Option (Option (List ℕ)) → List ℕ
in_slot (Some (Some block)) = block
in_slot (Some None) = []
in_slot None = []

-- the block of each place
abbrev pub blocks_in : List (Option (List ℕ)) → Blocks
blocks_in slots place = in_slot (slice_get slots place)

-- there are none yet, or one for each place
abbrev pub AreSlots : List (Option (List ℕ)) → Type 0
AreSlots slots = (length slots ≡ 0) ⊎ (length slots ≡ 512)
