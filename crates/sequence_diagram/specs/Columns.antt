-- Which places take part in a run.
use Rattle.std.specs.Prelude.{ℕ, ◌==◌, Bool, true, false, ◌||◌, if◌then◌else◌, List, [], ◌∷◌, ◌++◌, Option, Some, None, Result, Ok}
use Rattle.std.specs.List.{flat_map, list_any}
use Rattle.event_callbacks.specs.declared.operations.OpId.TheVariants as id
use Rattle.guest_lockstep.specs.declared.running.StopReason.TheVariants as stopped
use Rattle.i8080_words.specs.declared.refusal.Fault.{Fault}
use Rattle.pair_events.specs.declared.event.Event.{Event}
use Rattle.pair_events.specs.declared.event.Event.TheVariants as event
use Rattle.pair_events.specs.declared.reply.Reply.{Reply}
use Rattle.pair_events.specs.declared.reply.Reply.TheVariants as reply
use Rattle.sequence_diagram.specs.declared.moment.Moment.{Moment}
use Rattle.sequence_diagram.specs.declared.place.Lifeline.{Lifeline}
use Rattle.sequence_diagram.specs.declared.place.Lifeline.TheVariants.{Terminal, Node, Arbiter, Disk}

-- the port of an event, if it is one of a terminal; that of a byte that arrives is not known from the event alone
abbrev pub event_port : Event → Option ℕ
event_port (event.TypeByte port byte) = Some port
event_port (event.TakeKey node port index) = Some port
event_port (event.TellSent node port number) = Some port
event_port (event.Told node port) = Some port
event_port (event.Release node (id.Byte port number)) = Some port
event_port (event.Arrive message) = Some 0
event_port other = None

-- the port of a byte that a guest has given
abbrev pub answer_port : Result Reply Fault → Option ℕ
answer_port (Ok (reply.Ran steps count (stopped.Operation (id.Byte port number)))) = Some port
answer_port other = None

abbrev pub is_port : ℕ → Option ℕ → Bool
is_port port (Some other) = other == port
is_port port None = false

-- reads and writes
abbrev pub uses_disk : Event → Bool
uses_disk (event.Put message) = true
uses_disk (event.Get node sector) = true
uses_disk (event.Fetch node) = true
uses_disk (event.Release node (id.Write number)) = true
uses_disk other = false

-- a question to the arbiter
abbrev pub asks_arbiter : Event → Bool
asks_arbiter (event.Suspect node) = true
asks_arbiter other = false

-- a place other than a node takes part in an event
abbrev pub takes_part : Lifeline → Moment → Bool
takes_part (Terminal port) moment = is_port port (event_port moment.event) || is_port port (answer_port moment.answer)
takes_part (Node node) moment = false
takes_part Arbiter moment = asks_arbiter moment.event
takes_part Disk moment = uses_disk moment.event

-- it does in some event of a run
abbrev pub used : Lifeline → List Moment → List Lifeline
used place moments = if list_any (takes_part place) moments then place ∷ [] else []

-- the host with which a pair has begun
abbrev pub host_by : Event → Result Reply Fault → List Lifeline
host_by (event.BeginPair node host) (Ok (reply.Generation generation)) = Node host ∷ []
host_by happened answer = []

abbrev pub host_in : Moment → List Lifeline
host_in moment = host_by moment.event moment.answer

abbrev pub hosts_in : List Moment → List Lifeline
hosts_in moments = flat_map host_in moments

-- nodes 0 and 1 always take part
abbrev pub nodes_in : List Moment → List Lifeline
nodes_in moments = Node 0 ∷ Node 1 ∷ hosts_in moments

-- from left to right: terminals, nodes, the arbiter and the disk
abbrev pub columns_of : List Moment → List Lifeline
columns_of moments =
    used (Terminal 0) moments ++ used (Terminal 1) moments ++ nodes_in moments ++ used Arbiter moments ++ used Disk moments
