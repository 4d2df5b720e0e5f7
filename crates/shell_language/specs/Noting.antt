-- What a book notes of each event.
use Rattle.std.specs.Prelude.{ℕ, ◌-◌, ◌||◌, nat_lt, min, max, true, false, List, [], ◌∷◌, ◌++◌, Option, Some, None, option_map, Result, Ok, Err, slice_get, slice_set}
use Rattle.std.specs.Option.{option_map_or}
use Rattle.event_callbacks.specs.declared.operations.OpId.{OpId}
use Rattle.event_callbacks.specs.declared.operations.OpId.TheVariants as id
use Rattle.guest_lockstep.specs.declared.running.StopReason.{StopReason}
use Rattle.guest_lockstep.specs.declared.running.StopReason.TheVariants.{Operation}
use Rattle.i8080_words.specs.declared.refusal.Fault.{Fault}
use Rattle.i8080_words.specs.declared.refusal.Fault.TheVariants.{NotDue}
use Rattle.pair_events.specs.declared.event.Event.{Event}
use Rattle.pair_events.specs.declared.event.Event.TheVariants as event
use Rattle.pair_events.specs.declared.reply.Reply.{Reply}
use Rattle.pair_events.specs.declared.reply.Reply.TheVariants as reply
use Rattle.sequence_diagram.specs.Messages.{delivered_by}
use Rattle.shell_language.specs.Notes.{Progress, next, notes_of, with_port, without}
use Rattle.shell_language.specs.declared.book.Brings.{Brings}
use Rattle.shell_language.specs.declared.book.Brings.TheVariants as brings
use Rattle.shell_language.specs.declared.book.Letter.{Letter}

-- ---- messages

-- a message was sent; one has reached someone
abbrev pub posted : Option Brings → List Letter → List Letter
posted None letters = letters
posted (Some what) letters = letters ++ record { brings = what; has_arrived = false } ∷ []

abbrev pub arrived : Option ℕ → List Letter → List Letter
arrived None letters = letters
arrived (Some message) letters =
    option_map_or (λ (letter : Letter). slice_set letters message (record letter { has_arrived = true }))
    (slice_get letters message) letters

-- the messages after an event; a refused one leaves them
abbrev pub letters_after : Event → Result Reply Fault → Option Brings → List Letter → List Letter
letters_after happened (Ok answer) what letters = arrived (delivered_by happened) (posted what letters)
letters_after happened (Err fault) what letters = letters

-- what the message of a number brings
abbrev pub brought : List Letter → ℕ → Option Brings
brought letters message = option_map (λ (letter : Letter). letter.brings) (slice_get letters message)

-- ---- how far the node that runs the guest has come

-- a key was typed
abbrev pub noted_typed : ℕ → Reply → Progress → Progress
noted_typed port (reply.Typed index) p = with_port port (record (notes_of p.ports port) { typed = next index }) p
noted_typed port other p = p

-- the guest gave an operation, and a primary has logged its mark
abbrev pub given : OpId → Progress → Progress
given (id.Byte port number) p =
    record (with_port port (record (notes_of p.ports port) { sent = number }) p) { logged = next p.logged }
given (id.Write number) p =
    record p { logged = next p.logged; writes = number; undone = p.undone ++ number ∷ [] }

abbrev pub stopped_by : StopReason → Progress → Progress
stopped_by (Operation name) p = given name p
stopped_by other p = p

-- it has made steps, if any
abbrev pub noted_steps : Reply → Progress → Progress
noted_steps (reply.Ran steps count why) p = stopped_by why (record p { has_run = p.has_run || nat_lt 0 steps })
noted_steps other p = p

-- an entry was sent: it and those before it are not to be sent for the first time any more
abbrev pub noted_sent : ℕ → Reply → Progress → Progress
noted_sent index (reply.Message message) p = record p { posted = max p.posted (next index) }
noted_sent index other p = p

-- so it is of a part of an image
abbrev pub noted_part : ℕ → Reply → Progress → Progress
noted_part index (reply.Message message) p = record p { parts = max p.parts (next index) }
noted_part index other p = p

-- so many entries are acknowledged
abbrev pub noted_held : Reply → Progress → Progress
noted_held (reply.Held held) p = record p { held = held }
noted_held other p = p

-- a terminal was told how many keys are covered
abbrev pub noted_told : ℕ → Reply → Progress → Progress
noted_told port (reply.Told keys) p = with_port port (record (notes_of p.ports port) { covered = keys }) p
noted_told port other p = p

-- a terminal has accepted the byte of a message
abbrev pub accepted_by : Option Brings → Progress → Progress
accepted_by (Some (brings.Byte port)) p =
    with_port port (record (notes_of p.ports port) { accepted = next (notes_of p.ports port).accepted }) p
accepted_by other p = p

abbrev pub noted_accepted : Option Brings → Reply → Progress → Progress
noted_accepted what reply.Accepted p = accepted_by what p
noted_accepted what other p = p

-- the guest hears that a write is done
abbrev pub heard_written : Option Brings → Progress → Progress
heard_written (Some (brings.Written number)) p = record p { undone = without p.undone number }
heard_written other p = p

-- the guest took an input, and a primary has logged it
abbrev pub taken_by : Event → List Letter → Progress → Progress
taken_by (event.TakeKey node port index) letters p = with_port port (record (notes_of p.ports port) { taken = next index }) p
taken_by (event.TellSent node port number) letters p = with_port port (record (notes_of p.ports port) { heard = number }) p
taken_by (event.PutReply message node) letters p = heard_written (brought letters message) p
taken_by other letters p = p

-- so it did; or a pair has begun, whose log is empty, and of whose image nothing was sent
abbrev pub noted_taken : Event → Reply → List Letter → Progress → Progress
noted_taken happened reply.Taken letters p = taken_by happened letters (record p { logged = next p.logged })
noted_taken happened (reply.Generation generation) letters p = record p { logged = 0; posted = 0; held = 0; parts = 0 }
noted_taken happened other letters p = p

-- by the event; a sector that a backup was handed is no input of the guest that runs
abbrev pub replied : Event → Reply → List Letter → Progress → Progress
replied (event.TypeByte port typed) answer letters p = noted_typed port answer p
replied (event.Step node turns) answer letters p = noted_steps answer p
replied (event.Send node index) answer letters p = noted_sent index answer p
replied (event.SendPart node index) answer letters p = noted_part index answer p
replied (event.DeliverAcknowledgement message node) answer letters p = noted_held answer p
replied (event.Told node port) answer letters p = noted_told port answer p
replied (event.Arrive message) answer letters p = noted_accepted (brought letters message) answer p
replied (event.Fetched message node) answer letters p = p
replied other answer letters p = noted_taken other answer letters p

-- a node that has won has not given an operation, or not yet: its port has sent the bytes before it, and no fewer than it has
-- heard of
abbrev pub ungiven : Event → Progress → Progress
ungiven (event.Release node (id.Byte port number)) p = with_port port (record (notes_of p.ports port) {
  sent = max (min (notes_of p.ports port).sent (number - 1)) (notes_of p.ports port).heard;
}) p
ungiven (event.Release node (id.Write number)) p = record p { undone = without p.undone number }
ungiven other p = p

-- by the answer; of refusals only one says anything
abbrev pub noted : Event → Result Reply Fault → List Letter → Progress → Progress
noted happened (Ok answer) letters p = replied happened answer letters p
noted happened (Err NotDue) letters p = ungiven happened p
noted happened (Err fault) letters p = p
