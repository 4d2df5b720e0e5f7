-- A part of the image that a primary keeps is a part of the copy of the machine.
use Rattle.std.proofs.Common.{◌≡◌, ℕ, true, false, not, ◌||◌, Option, Some, None, List, [], ◌∷◌, Result, Ok, Err, refl, sym, ap, subst, ◌∙◌}
use Rattle.std.specs.Prelude.{◌<◌, ◌≤◌, ◌^◌, is_none, option_map, slice_get}
use Rattle.std.proofs.lemmas.Option.{slice_get_past}
use Rattle.std.specs.Global.{Vec}
use Rattle.guest_parts.specs.Parts.{guest_of_parts}
use Rattle.clone_state.specs.Checkpoint.{checkpoint_of}
use Rattle.ft_node.proofs.Words.{Copying, Covering, Ever, Fault, Gives, HasImage, IsImageOf, IsPrimary, Log, Machine, Node, Primary, Reads, Sending, SendsPart, SpellsPart, Unknown, Unless, acts_as, fault_if, has_part, image_parts, part_count, send_part_refusal}
use Rattle.clone_state.specs.Laws.{PartsAreCounted}
use Rattle.clone_state.specs.declared.image.Image.{Image}
use Rattle.ft_node.specs.Kept.{ImageParts, image_of}
use Rattle.clone_state.specs.Image.{Spells, part_bytes}
use Rattle.ft_node.specs.Kept.{part_of}

module _ {S : Type 0} (C : Copying S) (x : Node S) (index : ℕ) (result : Result (Vec ℕ) Fault) where
  -- only the image refuses a part
  image_refuses : x.role ≡ Primary → x.running ≡ true
      → send_part_refusal C index x ≡ fault_if (not (has_part C x.image index)) Unknown
  image_refuses role up =
      let acts : not (acts_as x (Primary ∷ [])) ≡ false = rw (role, up) refl in
      ap (λ b. fault_if (b || not (has_part C x.image index)) Unknown) acts

  unknown : send_part_refusal C index x ≡ Some Unknown → result ≡ Err Unknown → SendsPart C index x result
  unknown refuses is =
      subst (λ r. Unless r result (Unit {0}) (Gives result (Ever x) (λ bytes. SpellsPart C index x bytes))) (sym refuses)
      (is, tt)

  spelled_part : (s : S) (generation : ℕ) (part : List ℕ) (r : Result (Vec ℕ) Fault) → x.image ≡ Some s
      → slice_get (C.parts s) index ≡ Some part → generation ≡ x.generation → 0 < x.generation → x.generation < 2 ^ 32
      → Spells (Some (part_bytes generation index part)) r
      → Gives r (Ever x) (λ bytes. SpellsPart C index x bytes)
  spelled_part s generation part (Ok bytes) there is begins first within spelled = record {
    part = part;
    has = record { s = s; image = there; is_part = is };
    first = first;
    within = within;
    spelled = spelled ∙ ap (λ g. part_bytes g index part) begins;
  }
  spelled_part s generation part (Err fault) there is begins first within spelled = (spelled, tt)

  of_image : (s : S) (generation : ℕ) (part : Option (List ℕ)) → x.role ≡ Primary → x.running ≡ true
      → x.image ≡ Some s → slice_get (C.parts s) index ≡ part → generation ≡ x.generation → 0 < x.generation
      → x.generation < 2 ^ 32 → Spells (option_map (part_bytes generation index) part) result → SendsPart C index x result
  of_image s generation None role up there is begins first within spelled =
      unknown
      (image_refuses role up ∙ ap (λ o. fault_if (not (has_part C o index)) Unknown) there
      ∙ ap (λ (o : Option (List ℕ)). fault_if (not (not (is_none o))) Unknown) is)
      spelled
  of_image s generation (Some part) role up there is begins first within spelled =
      subst (λ r. Unless r result (Unit {0}) (Gives result (Ever x) (λ bytes. SpellsPart C index x bytes)))
      (sym (image_refuses role up ∙ ap (λ o. fault_if (not (has_part C o index)) Unknown) there
      ∙ ap (λ (o : Option (List ℕ)). fault_if (not (not (is_none o))) Unknown) is))
      (spelled_part s generation part result there is begins first within spelled)

  -- what a primary sends of the image that it keeps
  pub sends : (M : Machine S) (reads : Reads) (s : S) (l : Log) (sd : Sending) (c : Covering) (kept : Option ImageParts)
      → IsPrimary M (HasImage C sd.generation kept) reads s l sd c x → 0 < sd.generation → sd.generation < 2 ^ 32
      → Spells (part_of kept index) result → SendsPart C index x result
  sends M reads s l sd c None p first within spelled =
      unknown (image_refuses p.role p.up ∙ ap (λ o. fault_if (not (has_part C o index)) Unknown) p.image) spelled
  sends M reads s l sd c (Some kept) p first within spelled =
      let i : IsImageOf C sd.generation kept x.image = p.image in
      of_image i.s kept.generation (slice_get (C.parts i.s) index) p.role p.up i.there refl
      (i.begins ∙ sym p.generation) (subst (λ g. 0 < g) (sym p.generation) first)
      (subst (λ g. g < 2 ^ 32) (sym p.generation) within)
      (subst (λ parts. Spells (option_map (part_bytes kept.generation index) (slice_get parts index)) result) i.parts
      spelled)

-- an image has no part past the last one
pub no_part : PartsAreCounted → (image : Image) (index : ℕ) → part_count image.copied.devices.disk.attached ≤ index
    → part_of (Some (image_of image)) index ≡ None
no_part counted image index past =
    ap (option_map (part_bytes image.generation index))
    (slice_get_past (image_parts (guest_of_parts image.copied)) index
    (subst (λ n. n ≤ index) (sym (counted (checkpoint_of (guest_of_parts image.copied)))) past))
