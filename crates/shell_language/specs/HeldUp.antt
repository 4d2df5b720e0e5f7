-- Which refusals hold something up after the events of a tape.
use Rattle.std.specs.Prelude.{ℕ, ◌==◌, ◌&&◌, ◌||◌, nat_lt, Bool, false, if◌then◌else◌, List, [], ◌∷◌, Option, Some, None, is_some, Result, Ok, Err, bytes_eq, codes}
use Rattle.std.specs.Option.{option_map_or}
use Rattle.guest_lockstep.specs.declared.replay_end.ReplayEnd.TheVariants.{Memory}
use Rattle.guest_lockstep.specs.declared.running.StopReason.TheVariants as stopped
use Rattle.i8080_words.specs.Refusals.{number_of}
use Rattle.i8080_words.specs.declared.refusal.Fault.{Fault}
use Rattle.i8080_words.specs.declared.refusal.Fault.TheVariants.{OutOfMemory, NotDue, NotCovered, Idle}
use Rattle.pair_events.specs.declared.event.Event.{Event}
use Rattle.pair_events.specs.declared.event.Event.TheVariants as event
use Rattle.pair_events.specs.declared.reply.Reply.{Reply}
use Rattle.pair_events.specs.declared.reply.Reply.TheVariants as reply
use Rattle.shell_language.specs.Notes.{next}
use Rattle.shell_language.specs.declared.book.OutstandingOutput.{OutstandingOutput}
use Rattle.shell_language.specs.declared.held_up.Meeting.{Meeting}
use Rattle.shell_language.specs.declared.tape.Played.{Played}

-- the refusal in an answer: of the event, or of a step or a move after those that were made
abbrev pub fault_in : Result Reply Fault → Option Fault
fault_in (Err fault) = Some fault
fault_in (Ok (reply.Ran steps count (stopped.Refused fault))) = Some fault
fault_in (Ok (reply.Moved moves Memory)) = Some OutOfMemory
fault_in (Ok other) = None

abbrev pub is_met : Fault → Result Reply Fault → Bool
is_met fault answer = option_map_or (λ (met : Fault). number_of met == number_of fault) (fault_in answer) false

-- the kind of an event: the first word of its line
abbrev pub word_after : Event → List ℕ
word_after (event.Arrive message) = codes "arrive"
word_after (event.TellSent node port number) = codes "sent"
word_after (event.Put message) = codes "put"
word_after (event.PutReply message node) = codes "done"
word_after (event.Get node sector) = codes "get"
word_after (event.GetReply message node) = codes "under"
word_after (event.Fetch node) = codes "fetch"
word_after (event.Fetched message node) = codes "fetched"
word_after other = []

abbrev pub word_of : Event → List ℕ
word_of (event.Step node turns) = codes "step"
word_of (event.TakeKey node port index) = codes "key"
word_of (event.Send node index) = codes "send"
word_of (event.DeliverLog message node) = codes "log"
word_of (event.Acknowledge node) = codes "ack"
word_of (event.DeliverAcknowledgement message node) = codes "acked"
word_of (event.Replay node turns) = codes "replay"
word_of (event.Release node name) = codes "release"
word_of other = word_after other

-- the last event that was refused, unless one of its kind has come since
abbrev pub kept : Option Event → Event → Option Event
kept None happened = None
kept (Some refused) happened = if bytes_eq (word_of refused) (word_of happened) then None else Some refused

-- what was met of a refusal with one more event
unfoldable pub met : Fault → Meeting → Played → Meeting
met fault m p =
    if is_met fault p.answer then record { times = next m.times; last = Some p.event }
    else record { times = m.times; last = kept m.last p.event }

-- with all events of a tape, after what was met before
abbrev pub met_by : Fault → Meeting → List Played → Meeting
met_by fault m [] = m
met_by fault m (p ∷ tape) = met_by fault (met fault m p) tape

abbrev pub meeting_of : Fault → List Played → Meeting
meeting_of fault tape = met_by fault (record { times = 0; last = None }) tape

-- output waits
abbrev pub waits : OutstandingOutput → Bool
waits waiting = nat_lt 0 waiting.bytes || nat_lt 0 waiting.writes

-- Output is held up if it is not covered and waits. Another refusal holds something up if the last event of some kind was
-- refused with it; but not that nobody waits for an input, nor that the guest idles, which waits for a key.
abbrev pub holds_up : Fault → Meeting → OutstandingOutput → Bool
holds_up NotDue m waiting = false
holds_up Idle m waiting = false
holds_up NotCovered m waiting = nat_lt 0 m.times && waits waiting
holds_up fault m waiting = is_some m.last
