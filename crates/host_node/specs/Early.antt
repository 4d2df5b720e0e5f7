-- A copy that goes early: an image of a host's guest as it was then, part by part, before its generation has begun.
use Rattle.std.specs.Prelude.{◌≡◌, ℕ, ◌<◌, ◌==◌, Bool, true, false, ◌&&◌, is_none, is_some, List, ◌∷◌, Option, Some, None}
use Rattle.std.specs.Option.{option_map, option_map_or}
use Rattle.clone_state.specs.Image.{part_at}
use Rattle.clone_state.specs.Parts.{part_count}
use Rattle.clone_state.specs.declared.image.Image.{Image}
use Rattle.guest_lockstep.specs.Machine.{Machine}
use Rattle.guest_parts.specs.Guest.{Guest}
use Rattle.guest_parts.specs.Parts.{guest_of_parts}
use Rattle.host_frames.specs.Frames.{Packet}
use Rattle.host_node.specs.Guests.{Says}
use Rattle.host_node.specs.Mail.{HasSaid}
use Rattle.host_node.specs.declared.early.Early.{Early}
use Rattle.host_node.specs.declared.host.HostNode.{HostNode}
use Rattle.host_node.specs.declared.host.Hosted.{Hosted}

-- a copy is for this generation, and for the host at this place
abbrev pub is_for : (generation place : ℕ) → Early → Bool
is_for generation place early = early.generation == generation && early.place == place

-- such a copy goes now
abbrev pub is_going : (generation place : ℕ) → Option Early → Bool
is_going generation place None = false
is_going generation place (Some early) = is_for generation place early && is_some early.image

-- such a copy has gone, and its image is not kept
abbrev pub is_ready : (generation place : ℕ) → Option Early → Bool
is_ready generation place None = false
is_ready generation place (Some early) = is_for generation place early && is_none early.image

-- how many parts its image has
abbrev pub parts_early : Option Early → ℕ
parts_early None = 0
parts_early (Some early) = option_map_or (λ (image : Image). part_count image.copied.devices.disk.attached) early.image 0

-- its image is dropped
abbrev pub EndsEarly : Option Early → Option Early → Type 0
EndsEarly old new = new ≡ option_map (λ (early : Early). record early { image = None }) old

-- an image is for its generation
abbrev pub IsOf : (generation : ℕ) → Option Image → Type 0
IsOf generation None = Unit {0}
IsOf generation (Some image) = image.generation ≡ generation

-- a packet has a part of a copy's image, with the mark of one that goes early
pub record IsEarlyPart (index : ℕ) (early : Early) (bytes : List ℕ) : Type 0 where
  pub image : Image
  pub has : early.image ≡ Some image
  pub part : List ℕ
  pub at : part_at (guest_of_parts image.copied) image.generation index ≡ Some part
  pub marked : bytes ≡ 0x45 ∷ part

module _ {B S : Type 0} {H : Type 0} (state : B → S) (M : Machine S) (pictured : B → Guest) where
  -- an image of the guest of a host as it is now, for a generation; none without a guest
  pub record IsPicture (generation : ℕ) (h : Hosted B H) (image : Option Image) : Type 0 where
    pub of_generation : IsOf generation image
    pub of_guest : 0 < generation →
        Says state M (λ guest. Some (pictured guest)) h None (option_map (λ (i : Image). guest_of_parts i.copied) image)

  -- a copy is to go to this place for this generation: such an image
  pub record CopiesEarly (generation place : ℕ) (h : HostNode B H) : Type 0 where
    pub early : Early
    pub is : h.early ≡ Some early
    pub generation_is : early.generation ≡ generation
    pub place_is : early.place ≡ place
    pub image_is : IsPicture generation h.node early.image

module _ {B : Type 0} {H : Type 0} where
  -- such a packet goes to the place of the copy
  pub record SaysPart (index : ℕ) (old new : HostNode B H) : Type 0 where
    pub early : Early
    pub is : old.early ≡ Some early
    pub bytes : List ℕ
    pub of_part : IsEarlyPart index early bytes
    pub said : HasSaid (Packet early.place bytes) old.mail.gone new.mail.gone

  -- such a part went, or nothing did
  abbrev pub SaysEarly : Bool → (index : ℕ) → HostNode B H → HostNode B H → Type 0
  SaysEarly true index old new = SaysPart index old new
  SaysEarly false index old new = new.mail.gone ≡ old.mail.gone
