-- What is told after a day of the refusals that hold something up.
use Rattle.std.specs.Prelude.{ℕ, zero, if◌then◌else◌, List, [], ◌∷◌, ◌++◌, Option, Some, None, codes}
use Rattle.std.specs.List.{flat_map}
use Rattle.std.specs.Fmt.{decimal}
use Rattle.i8080_words.specs.declared.refusal.Fault.{Fault}
use Rattle.i8080_words.specs.declared.refusal.Fault.TheVariants.{NotCovered}
use Rattle.pair_events.specs.declared.event.Event.{Event}
use Rattle.shell_language.specs.Refusals.{refusals}
use Rattle.shell_language.specs.Spelling.{event_text}
use Rattle.shell_language.specs.HeldUp.{holds_up, meeting_of}
use Rattle.shell_language.specs.Notes.{waiting_in}
use Rattle.shell_language.specs.Texts.{Row, Words}
use Rattle.shell_language.specs.declared.book.Book.{Book}
use Rattle.shell_language.specs.declared.book.OutstandingOutput.{OutstandingOutput}
use Rattle.shell_language.specs.declared.held_up.Meeting.{Meeting}
use Rattle.shell_language.specs.declared.tape.Played.{Played}
use Rattle.shell_picture.specs.Answers.{refused_text}

-- the output that waits
abbrev pub output_by : ℕ → ℕ → List ℕ
output_by bytes zero = decimal bytes ++ codes " bytes wait"
output_by zero writes = decimal writes ++ codes " writes wait"
output_by bytes writes = decimal bytes ++ codes " bytes and " ++ decimal writes ++ codes " writes wait"

abbrev pub output_text : OutstandingOutput → List ℕ
output_text waiting = output_by waiting.bytes waiting.writes

-- the last event that was refused, if it is known; 96 is a quote
abbrev pub named_last : Option Event → List ℕ
named_last None = []
named_last (Some event) = codes ", the last `" ++ event_text event ++ codes "`"

-- how far the log is acknowledged
abbrev pub covered_text : Book → List ℕ
covered_text book =
    codes "; " ++ (decimal book.held ++ (codes " of " ++ (decimal book.logged ++ codes " entries are acknowledged")))

-- the line of a refusal: what waits if output is not covered, otherwise how many events were refused
abbrev pub held_row : Fault → Meeting → Book → Row
held_row NotCovered met book =
    Words (codes "  " ++ (output_text (waiting_in book) ++ (codes ": " ++ refused_text NotCovered))) NotCovered (covered_text book)
held_row fault met book =
    Words (codes "  " ++ (decimal met.times ++ (codes " events" ++ (named_last met.last ++ (codes ": " ++ refused_text fault))))) fault []

abbrev pub held_if : Fault → Meeting → Book → List Row
held_if fault met book = if holds_up fault met (waiting_in book) then held_row fault met book ∷ [] else []

abbrev pub held_of : List Played → Book → Fault → List Row
held_of tape book fault = held_if fault (meeting_of fault tape) book

-- a line for each refusal that holds something up after the events of a tape, in the order of their numbers
abbrev pub held_rows : List Played → Book → List Row
held_rows tape book = flat_map (held_of tape book) refusals
