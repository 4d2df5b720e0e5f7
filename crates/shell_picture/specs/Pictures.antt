-- A picture: a column for each place, and a line for each event.
use Rattle.std.specs.Prelude.{◌≡◌, ℕ, zero, suc, ◌+◌, ◌-◌, ◌^◌, ◌==◌, ◌&&◌, nat_lt, nat_le, min, max, Bool, true, false, if◌then◌else◌, List, [], ◌∷◌, ◌++◌, length, slice_get, Option, Some, None, codes}
use Rattle.std.specs.Fmt.{decimal}
use Rattle.std.specs.List.{repeat}
use Rattle.pair_events.specs.declared.event.Event.{Event}
use Rattle.pair_events.specs.declared.reply.Role.{Role}
use Rattle.pair_events.specs.declared.reply.Role.TheVariants.{Primary, Backup, Joining, Halted}
use Rattle.sequence_diagram.specs.Arrows.{HasDeparture}
use Rattle.sequence_diagram.specs.Columns.{columns_of}
use Rattle.sequence_diagram.specs.Places.{HasFlight, column_of, exchange_of, first_role, place_of, place_text, role_told, sender_of}
use Rattle.sequence_diagram.specs.Waits.{AreWaits}
use Rattle.sequence_diagram.specs.declared.arrows.Departure.{Departure}
use Rattle.sequence_diagram.specs.declared.exchanges.Exchange.{Exchange}
use Rattle.sequence_diagram.specs.declared.flights.Flight.{Flight}
use Rattle.sequence_diagram.specs.declared.moment.Moment.{Moment}
use Rattle.sequence_diagram.specs.declared.place.Lifeline.{Lifeline}
use Rattle.sequence_diagram.specs.declared.place.Lifeline.TheVariants.{Terminal, Node, Arbiter, Disk}
use Rattle.sequence_diagram.specs.declared.waits.OutputWait.{OutputWait}
use Rattle.shell_language.specs.Texts.{Prints, Row, Text}
use Rattle.shell_language.specs.declared.printing.Printed.{Printed}
use Rattle.shell_language.specs.declared.line.Stretch.{Stretch}
use Rattle.shell_picture.specs.Words.{IsSaid, said_text}
use Rattle.shell_picture.specs.declared.lanes.LaneMark.{LaneMark}
use Rattle.shell_picture.specs.declared.lanes.LaneMark.TheVariants.{Arrow, Leaves, Happens}
use Rattle.shell_picture.specs.declared.words.Said.{Said}

-- ---- what is drawn of an event

-- an arrow from the column of one place to that of another
abbrev pub arrow_between : List Lifeline → Lifeline → Lifeline → LaneMark
arrow_between places from to = Arrow (column_of places from) (column_of places to)

-- a mark where a message leaves, or where something happens
abbrev pub mark_by : List Lifeline → Event → Option Departure → LaneMark
mark_by places happened (Some departure) = Leaves (column_of places (sender_of happened))
mark_by places happened None = Happens (column_of places (place_of happened))

module _ (moments : List Moment) (places : List Lifeline) (event : ℕ) where
  -- of a message that came its arrow; otherwise a mark, by whether a message leaves
  abbrev pub DrawsFlight : Moment → Option Flight → Option LaneMark → Type 0
  DrawsFlight moment (Some flight) drawn = drawn ≡ Some (arrow_between places flight.from flight.to)
  DrawsFlight moment None drawn = (departure : Option Departure)
      × (HasDeparture moments event departure × (drawn ≡ Some (mark_by places moment.event departure)))

  -- of an exchange its arrow
  abbrev pub DrawsExchange : Moment → Option Exchange → Option LaneMark → Type 0
  DrawsExchange moment (Some exchange) drawn = drawn ≡ Some (arrow_between places exchange.from exchange.to)
  DrawsExchange moment None drawn =
      (flight : Option Flight) × (HasFlight moments event flight × DrawsFlight moment flight drawn)

  -- of no event nothing
  abbrev pub DrawsMoment : Option Moment → Option LaneMark → Type 0
  DrawsMoment None drawn = drawn ≡ None
  DrawsMoment (Some moment) drawn = DrawsExchange moment (exchange_of moment) drawn

  abbrev pub IsDrawn : Option LaneMark → Type 0
  IsDrawn drawn = DrawsMoment (slice_get moments event) drawn

-- ---- roles

-- the role of a node after so many events: what the last of them tells, or what it was before that one
abbrev pub told_of : ℕ → Option Moment → Option Role
told_of node (Some moment) = role_told node moment
told_of node None = None

abbrev pub told_at : List Moment → ℕ → ℕ → Option Role
told_at moments node event = told_of node (slice_get moments event)

abbrev pub told_or : Option Role → Option Role → Option Role
told_or (Some role) before = Some role
told_or None before = before

abbrev pub node_role : List Moment → ℕ → ℕ → Option Role
node_role moments node zero = first_role node
node_role moments node (suc event) = told_or (told_at moments node event) (node_role moments node event)

-- other places have none
abbrev pub role_after : List Moment → ℕ → Lifeline → Option Role
role_after moments count (Node node) = node_role moments node count
role_after moments count other = None

-- ---- the columns beside it

-- the line of a column where nothing is drawn: of a node by its role, and of a primary by whether its output waits
abbrev pub rest_mark : Option Role → Bool → List ℕ
rest_mark None waits = codes " "
rest_mark (Some Halted) waits = codes " "
rest_mark (Some Backup) waits = codes ":"
rest_mark (Some Joining) waits = codes "."
rest_mark (Some Primary) true = codes "#"
rest_mark (Some role) waits = codes "|"

-- output of the node of this column waits
abbrev pub is_waiting : List Lifeline → Option OutputWait → ℕ → Bool
is_waiting places None column = false
is_waiting places (Some wait) column = nat_lt 0 wait.operations && (column_of places (Node wait.node) == column)

-- what an arrow is in a column: its head, where it begins, what it crosses, or the column's own line
abbrev pub arrow_mark : ℕ → ℕ → ℕ → List ℕ → List ℕ
arrow_mark from to column rest =
    if (column == to) && nat_lt from to then codes ">"
    else (if (column == to) && nat_lt to from then codes "<"
    else (if column == from then codes "o"
    else (if nat_lt (min from to) column && nat_lt column (max from to) then codes "-" else rest)))

abbrev pub mark_text : Option LaneMark → ℕ → List ℕ → List ℕ
mark_text (Some (Arrow from to)) column rest = arrow_mark from to column rest
mark_text (Some (Leaves at)) column rest = if at == column then codes "o" else rest
mark_text (Some (Happens at)) column rest = if at == column then codes "*" else rest
mark_text None column rest = rest

-- an arrow comes to a column from its left, or goes on to its right
abbrev pub comes_from_left : Option LaneMark → ℕ → Bool
comes_from_left (Some (Arrow from to)) column = nat_lt (min from to) column && nat_le column (max from to)
comes_from_left stroke column = false

abbrev pub goes_right : Option LaneMark → ℕ → Bool
goes_right (Some (Arrow from to)) column = nat_le (min from to) column && nat_lt column (max from to)
goes_right stroke column = false

-- the role of the place of a column after an event
abbrev pub place_role : List Moment → ℕ → Option Lifeline → Option Role
place_role moments event (Some place) = role_after moments (min (event + 1) (2 ^ 64 - 1)) place
place_role moments event None = None

abbrev pub column_role : List Moment → List Lifeline → ℕ → ℕ → Option Role
column_role moments places event column = place_role moments event (slice_get places column)

abbrev pub column_rest : List Moment → List Lifeline → ℕ → Option OutputWait → ℕ → List ℕ
column_rest moments places event wait column = rest_mark (column_role moments places event column) (is_waiting places wait column)

-- a column is twelve characters wide: three before its mark, and eight after it
abbrev pub left_text : Bool → List ℕ
left_text true = codes "---"
left_text false = codes "   "

abbrev pub right_text : Bool → List ℕ
right_text true = codes "--------"
right_text false = codes "        "

abbrev pub column_text : Option LaneMark → ℕ → List ℕ → List ℕ
column_text stroke column rest =
    left_text (comes_from_left stroke column) ++ (mark_text stroke column rest ++ right_text (goes_right stroke column))

-- the first so many columns, from left to right
module _ (moments : List Moment) (places : List Lifeline) (event : ℕ) (stroke : Option LaneMark) (wait : Option OutputWait) where
  abbrev pub columns_text : ℕ → List ℕ
  columns_text zero = []
  columns_text (suc column) = columns_text column ++ column_text stroke column (column_rest moments places event wait column)

  abbrev pub lanes_text : List ℕ
  lanes_text = columns_text (length places)

-- ---- the names of the columns

-- what is between a name and the next column, which begins twelve characters after it; there are at most 2 terminals and 64 nodes
abbrev pub gap_text : Lifeline → List ℕ
gap_text (Terminal port) = codes "  "
gap_text (Node node) = if nat_lt node 10 then codes "      " else codes "     "
gap_text Arbiter = codes "     "
gap_text Disk = codes "        "

abbrev pub gap_of : Option Lifeline → List ℕ
gap_of (Some place) = gap_text place
gap_of None = []

abbrev pub name_of : Option Lifeline → List ℕ
name_of (Some place) = place_text place
name_of None = []

module _ (places : List Lifeline) where
  abbrev pub gap_at : ℕ → List ℕ
  gap_at column = gap_of (slice_get places column)

  -- what is before the name of a column: what the name before it leaves of that column
  abbrev pub gap_before : ℕ → List ℕ
  gap_before zero = []
  gap_before (suc column) = gap_at column

  abbrev pub name_at : ℕ → List ℕ
  name_at column = gap_before column ++ name_of (slice_get places column)

  -- the names of the first so many columns, from left to right
  abbrev pub names_to : ℕ → List ℕ
  names_to zero = []
  names_to (suc column) = names_to column ++ name_at column

  abbrev pub names_text : List ℕ
  names_text = names_to (length places)

abbrev pub head_text : List Lifeline → List ℕ
head_text places = codes " event " ++ names_text places

-- ---- the line of an event

-- its number in six characters, or as many as it needs
abbrev pub number_text : ℕ → List ℕ
number_text event = repeat (6 - length (decimal event)) (codes " ") ++ decimal event

abbrev pub event_text : List Moment → List Lifeline → ℕ → Option LaneMark → Option OutputWait → Said → List ℕ
event_text moments places event stroke wait said =
    number_text event ++ (codes " " ++ (lanes_text moments places event stroke wait ++ said_text said))

module _ (moments : List Moment) (places : List Lifeline) (waits : List OutputWait) where
  pub record IsEvent (event : ℕ) (row : Row) : Type 0 where
    pub stroke : Option LaneMark
    pub drawn : IsDrawn moments places event stroke
    pub said : Said
    pub says : IsSaid moments waits event said
    pub are : row ≡ Text (event_text moments places event stroke (slice_get waits event) said)

  -- the lines of so many events, from one on
  abbrev pub AreEvents : ℕ → ℕ → List Row → Type 0
  AreEvents first zero rows = rows ≡ []
  AreEvents first (suc count) rows = (before : List Row) × ((row : Row)
      × (AreEvents first count before × (IsEvent (first + count) row × (rows ≡ before ++ row ∷ []))))

  -- the line of one event is printed, or those of so many
  abbrev pub PrintsEvent : ℕ → Printed → Printed → Type 0
  PrintsEvent event old new = (row : Row) × (IsEvent event row × Prints (row ∷ []) old new)

  abbrev pub PrintsEvents : ℕ → ℕ → Printed → Printed → Type 0
  PrintsEvents first count old new = (rows : List Row) × (AreEvents first count rows × Prints rows old new)

-- ---- the whole picture

-- the first event that is shown, and the one after the last: those of the stretch that is asked for, or the last 24
abbrev pub first_shown : Option Stretch → ℕ → ℕ
first_shown (Some stretch) count = stretch.first
first_shown None count = count - 24

abbrev pub end_shown : Option Stretch → ℕ → ℕ
end_shown (Some stretch) count = min (min (stretch.last + 1) (2 ^ 64 - 1)) count
end_shown None count = count

-- the names of the columns, and a line for each event that is shown
pub record DrawsPicture (moments : List Moment) (stretch : Option Stretch) (old new : Printed) : Type 0 where
  pub waits : List OutputWait
  pub are_waits : AreWaits moments waits
  pub rows : List Row
  pub are_rows : AreEvents moments (columns_of moments) waits (first_shown stretch (length moments))
      (end_shown stretch (length moments) - first_shown stretch (length moments)) rows
  pub printed : Prints (Text (head_text (columns_of moments)) ∷ rows) old new
