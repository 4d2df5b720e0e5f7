-- What events have done that share a line: parts of a copy, or keys of a terminal.
use Rattle.std.specs.Prelude.{◌≡◌, ℕ, zero, suc, ◌+◌, ◌<◌, ◌≤◌, true, false, List, length, slice_get, ◌++◌, Option, Some, None, MatchOption, Result, Ok, unwrap_or, codes}
use Rattle.std.specs.Fmt.{decimal}
use Rattle.std.specs.Option.{option_or}
use Rattle.i8080_words.specs.declared.refusal.Fault.{Fault}
use Rattle.pair_events.specs.Printed.{◌␣◌}
use Rattle.pair_events.specs.declared.event.Event.{Event}
use Rattle.pair_events.specs.declared.event.Event.TheVariants as event
use Rattle.pair_events.specs.declared.reply.Reply.{Reply}
use Rattle.pair_events.specs.declared.reply.Reply.TheVariants as reply
use Rattle.sequence_diagram.specs.Lines.{line_at}
use Rattle.sequence_diagram.specs.Places.{HasFlight, exchange_of}
use Rattle.sequence_diagram.specs.Waits.{next}
use Rattle.sequence_diagram.specs.declared.flights.Flight.{Flight}
use Rattle.sequence_diagram.specs.declared.folds.FoldedKeys.{FoldedKeys}
use Rattle.sequence_diagram.specs.declared.folds.FoldedParts.{FoldedParts}
use Rattle.sequence_diagram.specs.declared.moment.Moment.{Moment}

-- ---- parts

abbrev pub no_parts : FoldedParts
no_parts = record { sent = 0; came = 0; index = None; flight = None; is_whole = false }

-- one more part was sent; the first one gives the index
abbrev pub sent_part : ℕ → FoldedParts → FoldedParts
sent_part index parts = record parts { sent = next parts.sent; index = Some (unwrap_or parts.index index) }

-- an event has sent a part, or has brought one; with the last of them the copy is whole
abbrev pub counted_part : Event → Result Reply Fault → FoldedParts → FoldedParts
counted_part (event.SendPart node index) (Ok answer) parts = sent_part index parts
counted_part happened (Ok reply.New) parts = record parts { came = next parts.came }
counted_part happened (Ok reply.Whole) parts = record parts { came = next parts.came; is_whole = true }
counted_part happened answer parts = parts

-- the first part that arrived gives the way
abbrev pub IsFirstFlight : List Moment → ℕ → Option Flight → Option Flight → Type 0
IsFirstFlight moments place (Some flight) after = after ≡ Some flight
IsFirstFlight moments place None after = HasFlight moments place after

abbrev pub HasNotedPart : List Moment → ℕ → FoldedParts → FoldedParts → Type 0
HasNotedPart moments place before after = MatchOption (slice_get moments place) (after ≡ before)
    (λ moment. (after ≡ record (counted_part moment.event moment.answer before) { flight = after.flight })
    × IsFirstFlight moments place before.flight after.flight)

-- ---- keys

abbrev pub no_keys : FoldedKeys
no_keys = record { typed = 0; taken = 0; exchange = None }

-- one more key was typed, or was taken
abbrev pub counted_key : Event → FoldedKeys → FoldedKeys
counted_key (event.TypeByte port byte) keys = record keys { typed = next keys.typed }
counted_key other keys = record keys { taken = next keys.taken }

-- the first key that was taken gives the way
abbrev pub noted_key : Moment → FoldedKeys → FoldedKeys
noted_key moment keys = record (counted_key moment.event keys) { exchange = option_or keys.exchange (exchange_of moment) }

abbrev pub NotesKey : List Moment → ℕ → FoldedKeys → FoldedKeys → Type 0
NotesKey moments place before after =
    MatchOption (slice_get moments place) (after ≡ before) (λ moment. after ≡ noted_key moment before)

-- ---- the events of a line

-- the events from one place to before another were noted, one after another
pub data AreNoted {A : Type 0} (Notes : ℕ → A → A → Type 0) (none : A) (first : ℕ) : ℕ → A → Type 0 where
  NoneNoted : AreNoted Notes none first first none
  OneNoted : {place : ℕ} {before after : A} → AreNoted Notes none first place before → Notes place before after
      → AreNoted Notes none first (place + 1) after

-- all events of the line that the first one begins were noted, and no others
pub record AreOfLine {A : Type 0} (Notes : ℕ → A → A → Type 0) (none : A) (moments : List Moment) (of : List ℕ) (first : ℕ) (all : A)
    : Type 0 where
  pub end : ℕ
  pub noted : AreNoted Notes none first end all
  pub shared : (k : ℕ) → first ≤ k → k < end → line_at of k ≡ line_at of first
  pub ends : end < length moments → line_at of end ≡ line_at of first → ⊥

-- ---- in words

-- of parts that arrived, how many have; of others, how many were sent
abbrev pub part_count : Option Flight → ℕ → ℕ → ℕ
part_count (Some flight) sent came = came
part_count None sent came = sent

abbrev pub many_parts : ℕ → List ℕ
many_parts count = decimal count ++ codes " parts of the copy"

abbrev pub counted_parts : ℕ → Option ℕ → List ℕ
counted_parts (suc zero) (Some index) = codes "part" ␣ (decimal index ++ codes " of the copy")
counted_parts (suc zero) None = codes "a part of the copy"
counted_parts count index = many_parts count

abbrev pub parts_text : FoldedParts → List ℕ
parts_text parts = counted_parts (part_count parts.flight parts.sent parts.came) parts.index

abbrev pub many_keys : ℕ → ℕ → List ℕ
many_keys typed taken = decimal typed ++ (codes " keys typed, " ++ (decimal taken ++ codes " taken"))

abbrev pub keys_text : ℕ → ℕ → List ℕ
keys_text typed zero = codes "types" ␣ (decimal typed ++ codes " keys")
keys_text zero taken = codes "takes" ␣ (decimal taken ++ codes " keys")
keys_text typed taken = many_keys typed taken
