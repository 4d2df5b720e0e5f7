-- What is said of an event, from what is found of it.
use Rattle.std.proofs.Common.{◌≡◌, ◌∙◌, ℕ, Bool, List, Option, Some, None, refl, ap, sym, subst}
use Rattle.std.specs.Prelude.{slice_get}
use Rattle.sequence_diagram.specs.Arrows.{HasDeparture}
use Rattle.sequence_diagram.specs.Places.{HasFlight, exchange_of}
use Rattle.sequence_diagram.specs.declared.arrows.Departure.{Departure}
use Rattle.sequence_diagram.specs.declared.exchanges.Exchange.{Exchange}
use Rattle.sequence_diagram.specs.declared.flights.Flight.{Flight}
use Rattle.sequence_diagram.specs.declared.moment.Moment.{Moment}
use Rattle.sequence_diagram.specs.declared.waits.OutputWait.{OutputWait}
use Rattle.shell_picture.specs.Words.{IsSaid, SaysExchange, SaysMoment, said_by, waits_more}
use Rattle.shell_picture.specs.declared.words.Said.{Said}
use Rattle.shell_picture.specs.declared.words.Said.TheVariants.{Nothing, Passes}

module _ (moments : List Moment) (waits : List OutputWait) (event : ℕ) where
  -- of no event, and of one that is there
  pub says_nothing : slice_get moments event ≡ None → IsSaid moments waits event Nothing
  says_nothing none = subst (λ m. SaysMoment moments waits event m Nothing) (sym none) refl

  pub says_here : (here : Moment) (said : Said) → slice_get moments event ≡ Some here
      → SaysExchange moments waits event here (exchange_of here) said → IsSaid moments waits event said
  says_here here said is h = subst (λ m. SaysMoment moments waits event m said) (sym is) h

  -- of an exchange
  pub says_exchange : (here : Moment) (exchange : Exchange) → exchange_of here ≡ Some exchange
      → SaysExchange moments waits event here (exchange_of here) (Passes here)
  says_exchange here exchange is = subst (λ e. SaysExchange moments waits event here e (Passes here)) (sym is) refl

  -- of another event
  pub says_other : (here : Moment) (flight : Option Flight) (departure : Option Departure) (more : Bool) (said : Said)
      → exchange_of here ≡ None → HasFlight moments event flight → HasDeparture moments event departure
      → more ≡ waits_more waits event → said ≡ said_by moments here more flight departure
      → SaysExchange moments waits event here (exchange_of here) said
  says_other here flight departure more said is comes leaves waited said_so =
      subst (λ e. SaysExchange moments waits event here e said) (sym is)
      (flight, (comes, (departure, (leaves, said_so ∙ ap (λ b. said_by moments here b flight departure) waited))))
