-- What is said of an event beside its columns.
use Rattle.std.specs.Prelude.{◌≡◌, ℕ, zero, suc, nat_lt, Bool, true, false, if◌then◌else◌, List, [], ◌++◌, Option, Some, None, is_some, slice_get, codes}
use Rattle.std.specs.Fmt.{decimal}
use Rattle.std.specs.Option.{option_map_or}
use Rattle.sequence_diagram.specs.Arrows.{HasDeparture}
use Rattle.sequence_diagram.specs.Places.{HasFlight, exchange_of}
use Rattle.sequence_diagram.specs.Words.{carried_text, is_plain, note_text, outcome_text}
use Rattle.sequence_diagram.specs.declared.arrows.Departure.{Departure}
use Rattle.sequence_diagram.specs.declared.exchanges.Exchange.{Exchange}
use Rattle.sequence_diagram.specs.declared.flights.Flight.{Flight}
use Rattle.sequence_diagram.specs.declared.moment.Moment.{Moment}
use Rattle.sequence_diagram.specs.declared.waits.OutputWait.{OutputWait}
use Rattle.shell_picture.specs.declared.words.CameMessage.{CameMessage}
use Rattle.shell_picture.specs.declared.words.LeftMessage.{LeftMessage}
use Rattle.shell_picture.specs.declared.words.Said.{Said}
use Rattle.shell_picture.specs.declared.words.Said.TheVariants.{Nothing, Passes, Comes, Leaves, Answers, Happens}

-- ---- of what something is said

-- how many operations wait after an event, and whether they are more than before it
abbrev pub operations_at : List OutputWait → ℕ → ℕ
operations_at waits event = option_map_or (λ (wait : OutputWait). wait.operations) (slice_get waits event) 0

abbrev pub waits_more : List OutputWait → ℕ → Bool
waits_more waits zero = nat_lt 0 (operations_at waits 0)
waits_more waits (suc before) = nat_lt (operations_at waits before) (operations_at waits (suc before))

-- a message that came, with the event that sent it; and one that left
abbrev pub came_by : List Moment → Moment → Flight → CameMessage
came_by moments here flight = record { sent = slice_get moments flight.sent; is_again = flight.is_again; here = here }

abbrev pub left_by : Moment → Departure → LeftMessage
left_by here departure = record { message = departure.message; here = here; comes = is_some departure.came }

abbrev pub said_by : List Moment → Moment → Bool → Option Flight → Option Departure → Said
said_by moments here more None None = Happens here more
said_by moments here more (Some flight) None = Comes (came_by moments here flight)
said_by moments here more None (Some departure) = Leaves (left_by here departure)
said_by moments here more (Some flight) (Some departure) = Answers (came_by moments here flight) (left_by here departure)

module _ (moments : List Moment) (waits : List OutputWait) (event : ℕ) where
  -- of an exchange what passes; of another event the messages that came and left, or what happens
  abbrev pub SaysExchange : Moment → Option Exchange → Said → Type 0
  SaysExchange here (Some exchange) said = said ≡ Passes here
  SaysExchange here None said = (flight : Option Flight) × (HasFlight moments event flight × ((departure : Option Departure)
      × (HasDeparture moments event departure × (said ≡ said_by moments here (waits_more waits event) flight departure))))

  -- of no event nothing
  abbrev pub SaysMoment : Option Moment → Said → Type 0
  SaysMoment None said = said ≡ Nothing
  SaysMoment (Some here) said = SaysExchange here (exchange_of here) said

  abbrev pub IsSaid : Said → Type 0
  IsSaid said = SaysMoment (slice_get moments event) said

-- ---- the words

-- what came of a message, or of a question, unless that goes without saying
abbrev pub result_text : Moment → List ℕ
result_text here = if is_plain here.answer then [] else codes "; " ++ outcome_text here

abbrev pub held_back_text : Bool → List ℕ
held_back_text true = codes ", held back"
held_back_text false = []

abbrev pub again_text : Bool → List ℕ
again_text true = codes ", again"
again_text false = []

abbrev pub there_text : Bool → List ℕ
there_text true = []
there_text false = codes ", not there yet"

abbrev pub sent_text : Option Moment → List ℕ
sent_text (Some sent) = carried_text sent
sent_text None = []

abbrev pub came_text : CameMessage → List ℕ
came_text came = sent_text came.sent ++ (again_text came.is_again ++ result_text came.here)

abbrev pub left_text : LeftMessage → List ℕ
left_text left =
    codes "sends message " ++ (decimal left.message ++ (codes ": " ++ (carried_text left.here ++ there_text left.comes)))

abbrev pub said_text : Said → List ℕ
said_text Nothing = []
said_text (Passes here) = note_text here ++ result_text here
said_text (Comes came) = came_text came
said_text (Leaves left) = left_text left
said_text (Answers came left) = came_text came ++ (codes "; " ++ left_text left)
said_text (Happens here more) = note_text here ++ held_back_text more
