-- A copy that goes early: its image is of the guest, each of its packets has a part of that, and none changes the node.
use Rattle.std.proofs.Common.{ℕ, ◌≡◌, true, List, ◌∷◌, [], Option, Some, None, arith, refl, sym, ap, ◌∙◌, subst}
use Rattle.std.specs.Prelude.{Ok}
use Rattle.std.proofs.lemmas.Bool.{eq-eqb}
use Rattle.std.specs.Global.{Vec}
use Rattle.clone_state.specs.Image.{Spells, part_at}
use Rattle.clone_state.specs.declared.image.Image.{Image}
use Rattle.guest_lockstep.specs.Machine.{Machine}
use Rattle.guest_parts.specs.Guest.{Guest}
use Rattle.guest_parts.specs.Parts.{guest_of_parts}
use Rattle.host_frames.specs.Frames.{Packet}
use Rattle.host_frames.specs.Meaning.{OfEarly, Speaks}
use Rattle.host_node.proofs.Calling.{saying}
use Rattle.host_node.proofs.Going.{said_since}
use Rattle.host_node.proofs.Looking.{says, says_nothing}
use Rattle.host_node.specs.Early.{CopiesEarly, IsEarlyPart, IsPicture, SaysPart, is_ready}
use Rattle.host_node.specs.Goes.{Goes}
use Rattle.host_node.specs.Hosts.{SameHost}
use Rattle.host_node.specs.Looks.{HasGuest}
use Rattle.host_node.specs.Mail.{HasSaid}
use Rattle.host_node.specs.declared.early.Early.{Early}
use Rattle.host_node.specs.declared.host.HostNode.{HostNode}
use Rattle.host_node.specs.declared.host.Hosted.{Hosted}

-- ---- the image

module _ {B S : Type 0} {H : Type 0} (state : B → S) (M : Machine S) (pictured : B → Guest) where
  pub pictures : (generation : ℕ) (h : Hosted B H) (guest : B) (image : Image) → HasGuest state M h (Some (state guest))
      → image.generation ≡ generation → guest_of_parts image.copied ≡ pictured guest
      → IsPicture state M pictured generation h (Some image)
  pictures generation h guest image has of is = record {
    of_generation = of;
    of_guest = λ some. says state M (λ g. Some (pictured g)) h None (Some (guest_of_parts image.copied)) guest has (ap Some is);
  }

  pub pictures_nothing : (generation : ℕ) (h : Hosted B H) → HasGuest state M h None → IsPicture state M pictured generation h None
  pictures_nothing generation h has =
      record { of_generation = tt; of_guest = λ some. says_nothing state M (λ g. Some (pictured g)) h None None has refl }

  pub pictures_none : (generation : ℕ) (h : Hosted B H) → generation ≡ 0 → IsPicture state M pictured generation h None
  pictures_none generation h none = record { of_generation = tt; of_guest = λ some. absurd (omega (arith, none, some)) }

  pub copies : (generation place : ℕ) (h : HostNode B H) (early : Early) → h.early ≡ Some early → early.generation ≡ generation
      → early.place ≡ place → IsPicture state M pictured generation h.node early.image
      → CopiesEarly state M pictured generation place h
  copies generation place h early is generation_is place_is image_is =
      record { early = early; is = is; generation_is = generation_is; place_is = place_is; image_is = image_is }

-- a copy without an image is over
pub is_over : (generation place : ℕ) → is_ready generation place (Some (record { generation = generation; place = place; image = None })) ≡ true
is_over generation place =
    rw (eq-eqb generation generation refl) (rw (eq-eqb place place refl) refl)

-- ---- its parts

spelled : (found : Option (List ℕ)) (bytes : Vec ℕ) → Spells found (Ok bytes) → found ≡ Some bytes.items
spelled None bytes is = absurd (cc)
spelled (Some part) bytes is = ap Some (sym is)

pub is_part : (index : ℕ) (early : Early) (image : Image) (part : Vec ℕ) (bytes slice : List ℕ) → early.image ≡ Some image
    → Spells (part_at (guest_of_parts image.copied) image.generation index) (Ok part) → slice ≡ part.items
    → bytes ≡ 0x45 ∷ slice → IsEarlyPart index early bytes
is_part index early image part bytes slice has spells same_bytes marked = record {
  image = image;
  has = has;
  part = part.items;
  at = spelled (part_at (guest_of_parts image.copied) image.generation index) part spells;
  marked = marked ∙ ap (λ l. 0x45 ∷ l) same_bytes;
}

module _ {B S : Type 0} {H : Type 0} (state : B → S) (M : Machine S) (copied : B → Guest) where
  pub sends : (old new : HostNode B H) (index : ℕ) (early : Early) (bytes : List ℕ) (looked : List (List ℕ))
      → IsEarlyPart index early bytes → new.node ≡ old.node → SameHost old new → new.mail.came ≡ old.mail.came
      → looked ≡ old.mail.gone → HasSaid (Packet early.place bytes) looked new.mail.gone → Goes state M copied old new
  sends old new index early bytes looked part same number came before went =
      saying state M copied old new (Packet early.place bytes) same number came
      (said_since (Packet early.place bytes) old.mail.gone looked new.mail.gone before went)
      (λ drives me. subst (λ l. Speaks drives me (Packet early.place l) []) (sym part.marked) (OfEarly early.place part.part))

module _ {B : Type 0} {H : Type 0} where
  pub says_part : (old new : HostNode B H) (index : ℕ) (early : Early) (bytes : List ℕ) (looked : List (List ℕ))
      → old.early ≡ Some early → IsEarlyPart index early bytes → looked ≡ old.mail.gone
      → HasSaid (Packet early.place bytes) looked new.mail.gone → SaysPart index old new
  says_part old new index early bytes looked is part before went = record {
    early = early;
    is = is;
    bytes = bytes;
    of_part = part;
    said = said_since (Packet early.place bytes) old.mail.gone looked new.mail.gone before went;
  }
