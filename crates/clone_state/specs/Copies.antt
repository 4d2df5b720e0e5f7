-- What the layers of a pair require of a guest that can be copied: its image in parts, and the guest that parts make.
use Rattle.std.specs.Prelude.{◌≡◌, ℕ, Bool, if◌then◌else◌, is_some, List, Option, Some, None}
use Rattle.guest_parts.specs.Guest.{Guest}
use Rattle.i8080_words.specs.declared.refusal.Fault.{Fault}
use Rattle.i8080_words.specs.declared.refusal.Fault.TheVariants.{Malformed, NotWhole, OutOfMemory}
use Rattle.clone_state.specs.Checkpoint.{checkpoint_of}
use Rattle.clone_state.specs.Parts.{guest_in, part_count, parts_of}

-- why none is made: a part is missing, the parts do not fit together, or there is no memory for it
abbrev pub refused_as : (List (List ℕ) → Bool) → Option (List (List ℕ)) → Fault
refused_as fit None = NotWhole
refused_as fit (Some parts) = if fit parts then OutOfMemory else Malformed

-- the payloads of the parts of an image
abbrev pub image_parts : Guest → List (List ℕ)
image_parts guest = parts_of (checkpoint_of guest)

-- guests of this many drives are copied by their images: the parts of a state are those of the image of each guest in
-- it, and parts make a state exactly if they make a guest in it
pub record CopiesAs {S G : Type 0} (state : G → S) (copied : G → Guest) (drives : ℕ) (parts : S → List (List ℕ))
    (count : ℕ) (assemble : List (List ℕ) → Option S) : Type 0 where
  pub same : (g : G) → parts (state g) ≡ image_parts (copied g)
  pub counted : count ≡ part_count drives
  pub made : (payloads : List (List ℕ)) (g : G) → guest_in drives payloads ≡ Some (copied g)
      → assemble payloads ≡ Some (state g)
  pub fits : (payloads : List (List ℕ)) → is_some (assemble payloads) ≡ is_some (guest_in drives payloads)
