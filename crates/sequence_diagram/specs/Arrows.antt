-- The arrows of a run: no arrow without its message, and no message without its arrow.
use Rattle.std.specs.Prelude.{◌≡◌, ℕ, ◌+◌, ◌<◌, ◌≤◌, List, length, Option, Some, None, MatchOption, Bool, true, false}
use Rattle.sequence_diagram.specs.Messages.{brought_at, sent_at, unknown_at}
use Rattle.sequence_diagram.specs.declared.arrows.Arrow.{Arrow}
use Rattle.sequence_diagram.specs.declared.arrows.Departure.{Departure}
use Rattle.sequence_diagram.specs.declared.moment.Moment.{Moment}

module _ (moments : List Moment) where
  -- no event from one place to before another has sent a message, or has brought it
  abbrev pub SentNowhere : ℕ → ℕ → ℕ → Type 0
  SentNowhere from to message = (k : ℕ) → from ≤ k → k < to → sent_at moments k ≡ Some message → ⊥

  abbrev pub BroughtNowhere : ℕ → ℕ → ℕ → Type 0
  BroughtNowhere from to message = (k : ℕ) → from ≤ k → k < to → brought_at moments k ≡ Some message → ⊥

  -- an arrow ends at the event that brought its message, and begins at the event before it that sent it, the last if there
  -- are several
  pub record IsArrowTo (place : ℕ) (arrow : Arrow) : Type 0 where
    pub brought : brought_at moments place ≡ Some arrow.message
    pub sent : sent_at moments arrow.sent ≡ Some arrow.message
    pub before : arrow.sent < place
    pub last : SentNowhere (arrow.sent + 1) place arrow.message

  -- an event that has no arrow to it has brought nothing that was sent before it
  abbrev pub HasArrow : ℕ → Option Arrow → Type 0
  HasArrow place found = MatchOption found ((message : ℕ) → brought_at moments place ≡ Some message → SentNowhere 0 place message)
      (λ arrow. IsArrowTo place arrow)

  -- a message leaves at the event that sent it, and arrives at the first event after it that brought it; or it is lost, and
  -- none did
  pub record IsDepartureFrom (place : ℕ) (departure : Departure) : Type 0 where
    pub sent : sent_at moments place ≡ Some departure.message
    pub comes : MatchOption departure.came (BroughtNowhere (place + 1) (length moments) departure.message)
        (λ came. (place < came) × (brought_at moments came ≡ Some departure.message)
        × BroughtNowhere (place + 1) came departure.message)

  -- an event without a departure has sent no message
  abbrev pub HasDeparture : ℕ → Option Departure → Type 0
  HasDeparture place found = MatchOption found (sent_at moments place ≡ None) (λ departure. IsDepartureFrom place departure)

  -- an event is stray if it was to bring a message that nobody takes, though it was sent before
  abbrev pub IsStray : ℕ → Bool → Type 0
  IsStray place found = MatchOption (unknown_at moments place) (found ≡ false)
      (λ message. (found ≡ true → (k : ℕ) × ((k < place) × (sent_at moments k ≡ Some message)))
      × (found ≡ false → SentNowhere 0 place message))
