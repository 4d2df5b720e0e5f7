-- What is drawn of an event, from what is found of it.
use Rattle.std.proofs.Common.{◌≡◌, ℕ, List, Option, Some, None, refl, sym, subst}
use Rattle.std.specs.Prelude.{slice_get}
use Rattle.sequence_diagram.specs.Arrows.{HasDeparture}
use Rattle.sequence_diagram.specs.Places.{HasFlight, exchange_of}
use Rattle.sequence_diagram.specs.declared.arrows.Departure.{Departure}
use Rattle.sequence_diagram.specs.declared.exchanges.Exchange.{Exchange}
use Rattle.sequence_diagram.specs.declared.flights.Flight.{Flight}
use Rattle.sequence_diagram.specs.declared.moment.Moment.{Moment}
use Rattle.sequence_diagram.specs.declared.place.Lifeline.{Lifeline}
use Rattle.shell_picture.specs.Pictures.{DrawsExchange, DrawsMoment, IsDrawn, arrow_between, mark_by}
use Rattle.shell_picture.specs.declared.lanes.LaneMark.{LaneMark}

module _ (moments : List Moment) (event : ℕ) where
  module _ (places : List Lifeline) where
    -- of no event
    pub draws_nothing : slice_get moments event ≡ None → IsDrawn moments places event None
    draws_nothing none = subst (λ m. DrawsMoment moments places event m None) (sym none) refl

    drawn : (moment : Moment) (exchange : Option Exchange) (stroke : Option LaneMark) → slice_get moments event ≡ Some moment
        → exchange_of moment ≡ exchange → DrawsExchange moments places event moment exchange stroke
        → IsDrawn moments places event stroke
    drawn moment exchange stroke here is h = subst (λ m. DrawsMoment moments places event m stroke) (sym here)
        (subst (λ e. DrawsExchange moments places event moment e stroke) (sym is) h)

    -- of an exchange
    pub draws_exchange : (moment : Moment) (exchange : Exchange) → slice_get moments event ≡ Some moment
        → Some exchange ≡ exchange_of moment
        → IsDrawn moments places event (Some (arrow_between places exchange.from exchange.to))
    draws_exchange moment exchange here is =
        drawn moment (Some exchange) (Some (arrow_between places exchange.from exchange.to)) here (sym is) refl

    -- of a message that came
    pub draws_flight : (moment : Moment) (flight : Flight) → slice_get moments event ≡ Some moment
        → None ≡ exchange_of moment → HasFlight moments event (Some flight)
        → IsDrawn moments places event (Some (arrow_between places flight.from flight.to))
    draws_flight moment flight here is comes =
        drawn moment None (Some (arrow_between places flight.from flight.to)) here (sym is) (Some flight, (comes, refl))

    -- of one that leaves, or of none
    pub draws_mark : (moment : Moment) (departure : Option Departure) → slice_get moments event ≡ Some moment
        → None ≡ exchange_of moment → HasFlight moments event None → HasDeparture moments event departure
        → IsDrawn moments places event (Some (mark_by places moment.event departure))
    draws_mark moment departure here is none leaves =
        drawn moment None (Some (mark_by places moment.event departure)) here (sym is)
        (None, (none, (departure, (leaves, refl))))
