-- The parts of one image as they arrive, in any order, and what is answered to each.
use Rattle.std.specs.Prelude.{ℕ, ◌==◌, Bool, if◌then◌else◌, ◌&&◌, List, [], ◌∷◌, replicate, slice_index_or, slice_set, is_none, is_some, Option, Some, None, Result, Ok, Err}
use Rattle.i8080_words.specs.declared.refusal.Fault.{Fault}
use Rattle.i8080_words.specs.declared.refusal.Fault.TheVariants.{Malformed, NotWhole, WrongGeneration}
use Rattle.guest_parts.specs.Guest.{Guest}
use Rattle.log_entry.specs.Numbers.{◌>>=◌}
use Rattle.clone_state.specs.Parts.{PartMessage, guest_in, message_at}

-- the payloads of the parts that arrived, by index
abbrev pub Slots : Type 0
Slots = List (Option (List ℕ))

-- the image of one generation, for a machine of this many drives
pub record Gathering : Type 0 where
  pub generation : ℕ
  pub drives : ℕ
  pub slots : Slots

-- none of this many parts has arrived
abbrev pub nothing_gathered : ℕ → ℕ → ℕ → Gathering
nothing_gathered generation drives count =
    record { generation = generation; drives = drives; slots = replicate count None }

-- the payloads, if all arrived
abbrev pub gathered : Slots → Option (List (List ℕ))
gathered [] = Some []
gathered (None ∷ slots) = None
gathered (Some payload ∷ slots) = gathered slots >>= λ rest. Some (payload ∷ rest)

-- ---- a part arrives

-- no part of this index arrived before
abbrev pub is_missing : Gathering → ℕ → Bool
is_missing g index = is_none (slice_index_or g.slots index None)

-- whether the part is new; a repeat is not
abbrev pub answer_to : Gathering → Option PartMessage → Result Bool Fault
answer_to g None = Err Malformed
answer_to g (Some m) = if m.generation == g.generation then Ok (is_missing g m.index) else Err WrongGeneration

-- a new part takes its slot; a repeat and a refusal change nothing
abbrev pub with_part : Gathering → Option PartMessage → Gathering
with_part g None = g
with_part g (Some m) =
    if m.generation == g.generation && is_missing g m.index
    then record g { slots = slice_set g.slots m.index (Some m.payload) }
    else g

-- a part of the generation is taken back
abbrev pub without_part : Gathering → Option PartMessage → Gathering
without_part g None = g
without_part g (Some m) =
    if m.generation == g.generation then record g { slots = slice_set g.slots m.index None } else g

unfoldable pub part_answer : Gathering → List ℕ → Result Bool Fault
part_answer g bytes = answer_to g (message_at g.drives bytes)

unfoldable pub after_part : Gathering → List ℕ → Gathering
after_part g bytes = with_part g (message_at g.drives bytes)

unfoldable pub after_forgetting : Gathering → List ℕ → Gathering
after_forgetting g bytes = without_part g (message_at g.drives bytes)

-- ---- all parts arrived

abbrev pub is_whole : Gathering → Bool
is_whole g = is_some (gathered g.slots)

abbrev pub whole_answer : Gathering → Result (Unit {0}) Fault
whole_answer g = if is_whole g then Ok tt else Err NotWhole

-- the machine that the parts make, if all arrived and they fit a board together
abbrev pub machine_in : Gathering → Option Guest
machine_in g = gathered g.slots >>= guest_in g.drives
