-- Keys of a terminal: which byte was typed as which.
use Rattle.std.specs.Prelude.{◌≡◌, ℕ, ◌<◌, ◌≤◌, ◌==◌, ◌&&◌, if◌then◌else◌, List, Option, Some, None, MatchOption, Result, Ok, slice_get}
use Rattle.i8080_words.specs.declared.refusal.Fault.{Fault}
use Rattle.pair_events.specs.declared.event.Event.{Event}
use Rattle.pair_events.specs.declared.event.Event.TheVariants as event
use Rattle.pair_events.specs.declared.reply.Reply.{Reply}
use Rattle.pair_events.specs.declared.reply.Reply.TheVariants as reply
use Rattle.sequence_diagram.specs.declared.moment.Moment.{Moment}

-- the byte that an event typed, if it is the key of this index at the terminal of this port
abbrev pub typed_by : ℕ → ℕ → Event → Result Reply Fault → Option ℕ
typed_by port index (event.TypeByte other byte) (Ok (reply.Typed typed)) =
    if (other == port) && (typed == index) then Some byte else None
typed_by port index happened answer = None

abbrev pub typed_of : ℕ → ℕ → Option Moment → Option ℕ
typed_of port index (Some moment) = typed_by port index moment.event moment.answer
typed_of port index None = None

module _ (moments : List Moment) where
  -- the same at a place of a run
  abbrev pub typed_at : ℕ → ℕ → ℕ → Option ℕ
  typed_at place port index = typed_of port index (slice_get moments place)

  -- no event from one place to before another has typed the key as any byte
  abbrev pub TypedNowhere : ℕ → ℕ → ℕ → ℕ → Type 0
  TypedNowhere from to port index =
      (byte k : ℕ) → from ≤ k → k < to → typed_at k port index ≡ Some byte → ⊥

  -- the key is the byte as which an event before this place typed it; without one none did
  abbrev pub HasByte : ℕ → ℕ → ℕ → Option ℕ → Type 0
  HasByte place port index found = MatchOption found (TypedNowhere 0 place port index)
      (λ byte. (k : ℕ) × ((k < place) × (typed_at k port index ≡ Some byte)))
