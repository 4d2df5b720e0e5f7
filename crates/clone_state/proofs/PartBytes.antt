-- The part of an index in a message, and that there is none past the image.
use Rattle.std.proofs.Common.{◌≡◌, ℕ, ◌<◌, ◌≤◌, List, [], length, Some, option_map, refl, sym, subst}
use Rattle.std.specs.Prelude.{IfOk, IsOkUnless, Result, Ok, Err, slice_index_or}
use Rattle.std.specs.Global.{Vec}
use Rattle.std.proofs.lemmas.Option.{slice_get_past, slice_get-get_or}
use Rattle.clone_state.proofs.Words.{Fault, Guest, OutOfMemory, Unknown, checkpoint_of, parts_of}
use Rattle.clone_state.specs.Image.{Spells, part_at, part_bytes}

pub past_the_image : (g : Guest) (generation index : ℕ) → length (parts_of (checkpoint_of g)) ≤ index
    → Spells (part_at g generation index) (Err Unknown)
past_the_image g generation index past =
    subst (λ o. Spells (option_map (part_bytes generation index) o) (Err Unknown))
    (sym (slice_get_past (parts_of (checkpoint_of g)) index past)) refl

in_the_image : (part : List ℕ) (result : Result (Vec ℕ) Fault) → IfOk result (λ bytes. bytes.items ≡ part)
    → IsOkUnless result OutOfMemory → Spells (Some part) result
in_the_image part (Ok bytes) ok full = ok
in_the_image part (Err fault) ok full = full

pub of_the_image : (g : Guest) (generation index : ℕ) (result : Result (Vec ℕ) Fault)
    → index < length (parts_of (checkpoint_of g))
    → IfOk result (λ bytes. bytes.items ≡ part_bytes generation index (slice_index_or (parts_of (checkpoint_of g)) index []))
    → IsOkUnless result OutOfMemory → Spells (part_at g generation index) result
of_the_image g generation index result inside ok full =
    subst (λ o. Spells (option_map (part_bytes generation index) o) result)
    (sym (slice_get-get_or (parts_of (checkpoint_of g)) index [] inside))
    (in_the_image (part_bytes generation index (slice_index_or (parts_of (checkpoint_of g)) index [])) result ok full)
