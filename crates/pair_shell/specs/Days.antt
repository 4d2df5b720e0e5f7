-- What is printed of a day.
use Rattle.std.specs.Prelude.{ℕ, ◌||◌, Bool, true, false, List, [], ◌∷◌, ◌++◌, Option, Some, None, codes, unwrap_or}
use Rattle.std.specs.Fmt.{decimal}
use Rattle.i8080_words.specs.declared.refusal.Fault.{Fault}
use Rattle.i8080_words.specs.declared.refusal.Fault.TheVariants.{LogFull, NotCovered}
use Rattle.shell_language.specs.HeldUp.{holds_up, meeting_of}
use Rattle.shell_language.specs.Notes.{waiting_in}
use Rattle.shell_language.specs.declared.book.Book.{Book}
use Rattle.shell_language.specs.declared.tape.Played.{Played}
use Rattle.shell_language.specs.Texts.{Row, Text}
use Rattle.shell_picture.specs.Endings.{ending_text}
use Rattle.shell_picture.specs.declared.day.Day.{Day}
use Rattle.shell_picture.specs.declared.ending.DayEnd.TheVariants.{Turns}

-- `ran I count C W`: the steps that the day has made, those that the node has made, and why the day ended
abbrev pub ran_text : Day → ℕ → List ℕ
ran_text day count =
    codes "ran " ++ (decimal day.made ++ (codes " count " ++ (decimal count ++ (codes " " ++ ending_text (unwrap_or day.ending Turns)))))

abbrev pub ran_rows : Option Day → ℕ → List Row
ran_rows (Some day) count = Text (ran_text day count) ∷ []
ran_rows None count = []

-- a refusal that the events of a day met holds something up
abbrev pub is_held : Fault → List Played → Book → Bool
is_held fault tape book = holds_up fault (meeting_of fault tape) (waiting_in book)

-- Output or the log is held up, and there is no backup that acknowledges. Who is alone is refused neither for want of it.
abbrev pub lacks_backup : Option ℕ → List Played → Book → Bool
lacks_backup None tape book = is_held NotCovered tape book || is_held LogFull tape book
lacks_backup (Some node) tape book = false

abbrev pub lack_row : Bool → List Row
lack_row true = Text (codes "  no backup acknowledges: it has stopped, or is not whole yet") ∷ []
lack_row false = []

abbrev pub lack_rows : Option ℕ → List Played → Book → List Row
lack_rows backup tape book = lack_row (lacks_backup backup tape book)
