-- Series of events: which event each number has, if any.
use Rattle.std.specs.Prelude.{ℕ, zero, suc, ◌+◌, ◌&&◌, Bool, true, false, not, if◌then◌else◌, List, [], ◌++◌, Option, Some, None, option_map, option_and_then, option_to_list, slice_get}
use Rattle.event_callbacks.specs.declared.operations.OpId.TheVariants as id
use Rattle.pair_events.specs.declared.event.Event.{Event}
use Rattle.pair_events.specs.declared.event.Event.TheVariants as event
use Rattle.shell_language.specs.declared.book.Book.{Book}
use Rattle.shell_language.specs.declared.book.Brings.{Brings}
use Rattle.shell_language.specs.declared.book.Brings.TheVariants as brings
use Rattle.shell_language.specs.declared.book.Letter.{Letter}
use Rattle.shell_picture.specs.declared.series.Series.{Series}
use Rattle.shell_picture.specs.declared.series.Series.TheVariants.{Entries, Bytes, Writes, Acceptances, EntriesOut, BytesOut, Parts, PartsOut}

abbrev pub is_entry : Brings → Bool
is_entry brings.Entry = true
is_entry _ = false

abbrev pub is_byte : Brings → Bool
is_byte (brings.Byte port) = true
is_byte _ = false

abbrev pub is_part : Brings → Bool
is_part brings.Part = true
is_part _ = false

-- an event, if a message brings what it is for and has reached nobody yet
abbrev pub if_out : (Brings → Bool) → Event → Letter → Option Event
if_out is_for happening letter = if is_for letter.brings && not letter.has_arrived then Some happening else None

-- Entry n is sent, or part n. Byte n + 1 of a port is released, since bytes are counted from 1; the node is told that it was accepted.
-- The n-th write that is not done is released. Message n, an entry, a byte or a part that has reached nobody yet, is delivered.
abbrev pub event_of : Series → Book → ℕ → Option Event
event_of (Entries node) book n = Some (event.Send node n)
event_of (Bytes node port) book n = Some (event.Release node (id.Byte port (n + 1)))
event_of (Acceptances node port) book n = Some (event.TellSent node port (n + 1))
event_of (Writes node) book n = option_map (λ number. event.Release node (id.Write number)) (slice_get book.undone.items n)
event_of (EntriesOut node) book n = option_and_then (if_out is_entry (event.DeliverLog n node)) (slice_get book.letters.items n)
event_of BytesOut book n = option_and_then (if_out is_byte (event.Arrive n)) (slice_get book.letters.items n)
event_of (Parts node) book n = Some (event.SendPart node n)
event_of (PartsOut node) book n = option_and_then (if_out is_part (event.PartComes n node)) (slice_get book.letters.items n)

-- the events that numbers have, so many from the first on, in order
abbrev pub run_of : (ℕ → Option Event) → ℕ → ℕ → List Event
run_of has first zero = []
run_of has first (suc count) = run_of has first count ++ option_to_list (has (first + count))
