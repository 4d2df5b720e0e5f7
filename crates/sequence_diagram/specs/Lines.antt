-- The lines of a picture, from top to bottom: which events share one.
use Rattle.std.specs.Prelude.{ℕ, ◌<◌, ◌+◌, ◌-◌, ◌==◌, ◌&&◌, ◌||◌, nat_le, not, Bool, false, if◌then◌else◌, List, [], ◌∷◌, ◌++◌, drop, length, replicate, slice_get, unwrap_or, Option, Some, None, is_none, is_some}
use Rattle.sequence_diagram.specs.Messages.{brought_by, sent_by}
use Rattle.sequence_diagram.specs.Runs.{key_of, run_length}
use Rattle.sequence_diagram.specs.declared.moment.Moment.{Moment}

-- ---- events that share a line

-- the same message
abbrev pub is_same : Option ℕ → Option ℕ → Bool
is_same (Some sent) (Some brought) = sent == brought
is_same sent brought = false

-- the second event brings what the first one sent, and neither brings or sends another message
abbrev pub passes : Moment → Moment → Bool
passes first second =
    is_same (sent_by first) (brought_by second) && is_none (brought_by first) && is_none (sent_by second)

abbrev pub comes_at_once : List Moment → Bool
comes_at_once (first ∷ second ∷ after) = passes first second
comes_at_once moments = false

-- how many of some events share the line which the first of them begins: those that are alike, or a message with its arrival
abbrev pub line_length : List Moment → ℕ
line_length moments = if (run_length moments == 1) && comes_at_once moments then 2 else run_length moments

-- Events, and the line of each: the first of them share one line, and those after them have the next lines, up to before the last
-- number.
pub data AreLines : ℕ → List Moment → List ℕ → ℕ → Type 0 where
  NoMore : (line : ℕ) → AreLines line [] [] line
  OneLine : (line end : ℕ) (moments : List Moment) (of : List ℕ) → 0 < length moments
      → AreLines (line + 1) (drop (line_length moments) moments) of end
      → AreLines line moments (replicate (line_length moments) line ++ of) end

-- ---- an event among them

-- the line of an event, by its place in the run
abbrev pub line_at : List ℕ → ℕ → ℕ
line_at of place = unwrap_or (slice_get of place) 0

-- it is the first on its line; so is what comes after all events
abbrev pub begins : List ℕ → ℕ → Bool
begins of place = (place == 0) || nat_le (length of) place || not (line_at of (place - 1) == line_at of place)

-- it is the last on its line
abbrev pub ends : List ℕ → ℕ → Bool
ends of place = nat_le (length of) place || begins of (place + 1)

abbrev key_at : Option Moment → Option ℕ
key_at (Some moment) = key_of moment
key_at None = None

-- it has typed or taken a key, and shares its line with others that have
abbrev pub is_among_keys : List ℕ → List Moment → ℕ → Bool
is_among_keys of moments place =
    is_some (key_at (slice_get moments place)) && not (begins of place && ends of place)
