-- Where things happen: the places of an event, of an exchange, and of a message on its way.
use Rattle.std.specs.Prelude.{◌≡◌, ℕ, ◌+◌, ◌==◌, zero, suc, Bool, true, false, not, if◌then◌else◌, List, [], ◌∷◌, ◌++◌, Option, Some, None, MatchOption, Result, Ok, Err, slice_get, codes}
use Rattle.std.specs.Fmt.{decimal}
use Rattle.i8080_words.specs.declared.refusal.Fault.{Fault}
use Rattle.i8080_words.specs.declared.refusal.Fault.TheVariants.{Lost}
use Rattle.pair_events.specs.declared.event.Event.{Event}
use Rattle.pair_events.specs.declared.event.Event.TheVariants as event
use Rattle.pair_events.specs.declared.reply.Reply.{Reply}
use Rattle.pair_events.specs.declared.reply.Role.{Role}
use Rattle.pair_events.specs.declared.reply.Role.TheVariants.{Primary, Backup, Joining}
use Rattle.sequence_diagram.specs.Arrows.{HasArrow, IsArrowTo, IsDepartureFrom}
use Rattle.sequence_diagram.specs.declared.arrows.Arrow.{Arrow}
use Rattle.sequence_diagram.specs.declared.arrows.Departure.{Departure}
use Rattle.sequence_diagram.specs.declared.exchanges.Exchange.{Exchange}
use Rattle.sequence_diagram.specs.declared.flights.Flight.{Flight}
use Rattle.sequence_diagram.specs.declared.moment.Cargo.{Cargo}
use Rattle.sequence_diagram.specs.declared.moment.Cargo.TheVariants.{Byte}
use Rattle.sequence_diagram.specs.declared.moment.NodeLook.{NodeLook}
use Rattle.sequence_diagram.specs.declared.moment.Moment.{Moment}
use Rattle.sequence_diagram.specs.declared.place.Lifeline.{Lifeline}
use Rattle.sequence_diagram.specs.declared.place.Lifeline.TheVariants.{Terminal, Node, Arbiter, Disk}

-- ---- columns

-- the name of a place
abbrev pub place_text : Lifeline → List ℕ
place_text (Terminal port) = codes "terminal " ++ decimal port
place_text (Node node) = codes "node " ++ decimal node
place_text Arbiter = codes "arbiter"
place_text Disk = codes "disk"

abbrev pub is_place : Lifeline → Lifeline → Bool
is_place (Terminal port) (Terminal other) = port == other
is_place (Node node) (Node other) = node == other
is_place Arbiter Arbiter = true
is_place Disk Disk = true
is_place _ _ = false

-- the column of a place, from this one on; the first of all if it has none
abbrev pub column_from : ℕ → List Lifeline → Lifeline → ℕ
column_from column [] place = 0
column_from column (other ∷ places) place = if is_place other place then column else column_from (column + 1) places place

abbrev pub column_of : List Lifeline → Lifeline → ℕ
column_of places place = column_from 0 places place

-- ---- events

-- the node at which an event happens, if it happens at one
abbrev pub change_node_of : Event → Option ℕ
change_node_of (event.Suspect node) = Some node
change_node_of (event.Drain node turns) = Some node
change_node_of (event.BeginPair node host) = Some node
change_node_of (event.Freshen node pages) = Some node
change_node_of (event.SendPart node index) = Some node
change_node_of (event.PartComes message node) = Some node
change_node_of (event.Stop node) = Some node
change_node_of other = None

abbrev pub later_node_of : Event → Option ℕ
later_node_of (event.TellSent node port number) = Some node
later_node_of (event.Told node port) = Some node
later_node_of (event.PutReply message node) = Some node
later_node_of (event.Get node sector) = Some node
later_node_of (event.GetReply message node) = Some node
later_node_of (event.Fetch node) = Some node
later_node_of (event.Fetched message node) = Some node
later_node_of other = change_node_of other

abbrev pub node_of : Event → Option ℕ
node_of (event.Step node turns) = Some node
node_of (event.TakeKey node port index) = Some node
node_of (event.Send node index) = Some node
node_of (event.DeliverLog message node) = Some node
node_of (event.Acknowledge node) = Some node
node_of (event.DeliverAcknowledgement message node) = Some node
node_of (event.Replay node turns) = Some node
node_of (event.Release node name) = Some node
node_of other = later_node_of other

-- where the message that an event sent leaves
abbrev pub sender_of : Event → Lifeline
sender_of (event.Send node index) = Node node
sender_of (event.Acknowledge node) = Node node
sender_of (event.Release node name) = Node node
sender_of (event.SendPart node index) = Node node
sender_of _ = Disk

-- a node, or the terminal of port 0 if there is none
abbrev pub node_or_terminal : Option ℕ → Lifeline
node_or_terminal (Some node) = Node node
node_or_terminal None = Terminal 0

-- where a message of this cargo arrives that an event brings
abbrev pub receiver_by : Event → Option Cargo → Lifeline
receiver_by (event.Put message) cargo = Disk
receiver_by (event.Arrive message) (Some (Byte port number byte)) = Terminal port
receiver_by other cargo = node_or_terminal (node_of other)

-- where an event happens that neither sends nor brings a message
abbrev pub place_of : Event → Lifeline
place_of (event.TypeByte port byte) = Terminal port
place_of (event.Put message) = Disk
place_of other = node_or_terminal (node_of other)

-- ---- exchanges: a question to the arbiter and its answer, what a terminal gives a node, and what a node tells one

abbrev pub exchange_if : Event → Option Exchange
exchange_if (event.Suspect node) = Some (record { from = Node node; to = Arbiter })
exchange_if (event.TakeKey node port index) = Some (record { from = Terminal port; to = Node node })
exchange_if (event.TellSent node port number) = Some (record { from = Terminal port; to = Node node })
exchange_if (event.Told node port) = Some (record { from = Node node; to = Terminal port })
exchange_if other = None

-- a refusal is none, except that of the arbiter
abbrev pub exchange_unless : Event → Option Exchange
exchange_unless (event.Suspect node) = Some (record { from = Node node; to = Arbiter })
exchange_unless other = None

abbrev pub exchange_by : Event → Result Reply Fault → Option Exchange
exchange_by happened (Ok answer) = exchange_if happened
exchange_by happened (Err Lost) = exchange_unless happened
exchange_by happened (Err fault) = None

abbrev pub exchange_of : Moment → Option Exchange
exchange_of moment = exchange_by moment.event moment.answer

-- ---- roles

-- before anything happens nodes 0 and 1 are the pair
abbrev pub first_role : ℕ → Option Role
first_role zero = Some Primary
first_role (suc zero) = Some Backup
first_role (suc (suc n)) = None

-- what a node shows of itself
abbrev pub look_role : ℕ → Option NodeLook → Option Role
look_role node None = None
look_role node (Some look) = if look.node == node then Some look.role else None

-- a host that a pair begins with is joining
abbrev pub role_by : ℕ → Event → Result Reply Fault → Option NodeLook → Option Role
role_by node (event.BeginPair first host) (Ok answer) look = if host == node then Some Joining else look_role node look
role_by node happened answer look = look_role node look

-- the role of a node after an event, if that tells it
abbrev pub role_told : ℕ → Moment → Option Role
role_told node moment = role_by node moment.event moment.answer moment.look

-- ---- messages on their way

-- the first event that brought a message is not this one
abbrev pub is_other : Option ℕ → ℕ → Bool
is_other None place = true
is_other (Some came) place = not (came == place)

module _ (moments : List Moment) where
  -- the way of a message that arrived at an event: from where the event before it that sent it happened to where this one
  -- does; it has arrived before if another event after that one brought it first
  pub record IsFlightTo (place : ℕ) (flight : Flight) : Type 0 where
    pub arrow : Arrow
    pub comes : IsArrowTo moments place arrow
    pub sender : Moment
    pub sent : slice_get moments arrow.sent ≡ Some sender
    pub here : Moment
    pub brought : slice_get moments place ≡ Some here
    pub departure : Departure
    pub leaves : IsDepartureFrom moments arrow.sent departure
    pub from : flight.from ≡ sender_of sender.event
    pub to : flight.to ≡ receiver_by here.event sender.cargo
    pub since : flight.sent ≡ arrow.sent
    pub again : flight.is_again ≡ is_other departure.came place

  -- an event without a flight has brought nothing that was sent before it
  abbrev pub HasFlight : ℕ → Option Flight → Type 0
  HasFlight place found = MatchOption found (HasArrow moments place None) (λ flight. IsFlightTo place flight)
