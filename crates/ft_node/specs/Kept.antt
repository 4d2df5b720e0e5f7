-- The image that a primary keeps, and its parts.
use Rattle.std.specs.Prelude.{ℕ, List, slice_get, option_map, Option, Some, None}
use Rattle.guest_parts.specs.Parts.{guest_of_parts}
use Rattle.clone_state.specs.Copies.{image_parts}
use Rattle.clone_state.specs.Image.{part_bytes}
use Rattle.clone_state.specs.declared.image.Image.{Image}

-- what an image has: the generation that it begins, and the payloads of its parts
pub record ImageParts : Type 0 where
  pub generation : ℕ
  pub parts : List (List ℕ)

abbrev pub image_of : Image → ImageParts
image_of image = record { generation = image.generation; parts = image_parts (guest_of_parts image.copied) }

-- a part in the bytes of a message, if there is an image and it has the part
abbrev pub part_of : Option ImageParts → ℕ → Option (List ℕ)
part_of None index = None
part_of (Some kept) index = option_map (part_bytes kept.generation index) (slice_get kept.parts index)
