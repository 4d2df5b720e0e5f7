-- The way of the messages in each part of a round.
use Rattle.std.specs.Prelude.{ℕ, Bool, true, false, if◌then◌else◌, Option, Some, None, option_map, option_and_then, slice_get}
use Rattle.pair_events.specs.declared.event.Event.{Event}
use Rattle.pair_events.specs.declared.event.Event.TheVariants as event
use Rattle.shell_language.specs.declared.book.Book.{Book}
use Rattle.shell_language.specs.declared.book.Brings.{Brings}
use Rattle.shell_language.specs.declared.book.Brings.TheVariants as brings
use Rattle.shell_language.specs.declared.book.Letter.{Letter}
use Rattle.shell_picture.specs.declared.phase.Phase.{Phase}
use Rattle.shell_picture.specs.declared.phase.Phase.TheVariants as round
use Rattle.shell_picture.specs.declared.route.Route.{Route}
use Rattle.shell_picture.specs.Series.{is_byte, is_entry}

-- what a message brings
abbrev pub is_acknowledgement : Brings → Bool
is_acknowledgement brings.Acknowledgement = true
is_acknowledgement _ = false

abbrev pub is_sector : Brings → Bool
is_sector brings.Sector = true
is_sector _ = false

abbrev pub is_write : Brings → Bool
is_write brings.Write = true
is_write _ = false

abbrev pub is_written : Brings → Bool
is_written (brings.Written number) = true
is_written _ = false

-- Which messages a part of the round carries, and the arrival of each: a sector that was read for the guest or for the
-- backup, entries and acknowledgements, bytes and writes, and what the disk answers to a write.
abbrev pub arrival : Phase → ℕ → Option ℕ → ℕ → Brings → Option Event
arrival round.Under node backup message what = if is_sector what then Some (event.GetReply message node) else None
arrival round.Fetched node backup message what = if is_sector what then option_map (λ node. event.Fetched message node) backup else None
arrival round.Log node backup message what = if is_entry what then option_map (λ node. event.DeliverLog message node) backup else None
arrival round.Acknowledged node backup message what =
    if is_acknowledgement what then Some (event.DeliverAcknowledgement message node) else None
arrival round.Arrive node backup message what =
    if is_byte what then Some (event.Arrive message) else if is_write what then Some (event.Put message) else None
arrival round.Complete node backup message what = if is_written what then Some (event.PutReply message node) else None
arrival other node backup message what = None

abbrev pub arrival_at : Route → Book → ℕ → Option Event
arrival_at route book message =
    option_and_then (λ (letter : Letter). arrival route.part route.node route.backup message letter.brings)
    (slice_get book.letters.items message)
