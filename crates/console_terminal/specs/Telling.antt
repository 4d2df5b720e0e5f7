-- What is said to the display of a command line: of each byte, and of many.
use Rattle.std.specs.Prelude.{◌≡◌, ℕ, Bool, true, false, if◌then◌else◌, List, [], ◌∷◌, ◌++◌, Option, None, Some}
use Rattle.std.specs.Global.{Global}
use Rattle.std.specs.declared.string.String.{String}
use Rattle.console_terminal.specs.Editing.{no_bytes, redrawn}
use Rattle.console_terminal.specs.Typing.{OpenLine, Place, after, done_by, order_at}
use Rattle.console_terminal.specs.declared.command.Order.{Order}
use Rattle.console_terminal.specs.declared.desk.Act.{Act}
use Rattle.console_terminal.specs.declared.keys.Heard.{Heard}
use Rattle.console_terminal.specs.declared.redraw.Redraw.{Redraw}
use Rattle.console_terminal.specs.declared.note.DisplayNote.{DisplayNote}
use Rattle.console_terminal.specs.declared.port.Port.{Port}

-- what is said of what the interpreter answers
abbrev pub note_of : Option (String Global) → List DisplayNote
note_of None = []
note_of (Some text) = DisplayNote.Answered text ∷ []

-- what is said of an order, if this is what the interpreter answers
abbrev pub answered : Order → Option (String Global) → List DisplayNote
answered Order.Nothing answer = []
answered (Order.Mistake mistake) answer = DisplayNote.Mistaken mistake ∷ []
answered (Order.Command command) answer = note_of answer

-- This was said of an order after what was said before.
abbrev pub Answers : Order → List DisplayNote → List DisplayNote → Type 0
Answers order before now = (answer : Option (String Global)) × (now ≡ before ++ answered order answer)

-- what is drawn of an edit, or after a list, by the command line before it and after it
abbrev pub drawn : Act → Option OpenLine → Option OpenLine → Option Redraw
drawn (Act.Edits edit) (Some old) (Some new) = Some (redrawn old.line new.line)
drawn Act.Lists (Some old) (Some new) = Some (redrawn no_bytes new.line)
drawn act old new = None

abbrev pub redraws : Option Redraw → List DisplayNote
redraws None = []
redraws (Some redraw) = DisplayNote.Redraws redraw ∷ []

abbrev pub lists : Option Redraw → List DisplayNote
lists None = []
lists (Some redraw) = DisplayNote.Lists redraw ∷ []

-- what is said of a byte, or of a pause, that does this; one is at the terminal of this port after it
abbrev pub changed : Act → Bool → Option Redraw → Port → List DisplayNote
changed (Act.Key byte) false redraw port = []
changed (Act.Key byte) true redraw port = DisplayNote.Closed port ∷ []
changed Act.Opens was_open redraw port = DisplayNote.Opened ∷ []
changed (Act.Edits edit) was_open redraw port = redraws redraw
changed Act.Lists was_open redraw port = lists redraw
changed (Act.Waits sequence) was_open redraw port = []
changed Act.Cancels was_open redraw port = DisplayNote.Closed port ∷ []
changed Act.HandsOn was_open redraw port = DisplayNote.Closed port ∷ []
changed Act.Nothing was_open redraw port = []

-- a command line is open
abbrev pub has_line : Option OpenLine → Bool
has_line None = false
has_line (Some o) = true

-- what is said of a byte, or of a pause: of the order that it gives, and of the command line
abbrev pub notes_by : ℕ → Place → Heard → Option (String Global) → List DisplayNote
notes_by escape p heard answer =
    answered (order_at escape p heard) answer
    ++ changed (done_by escape p.line heard) (has_line p.line) (drawn (done_by escape p.line heard) p.line (after escape p heard).line)
    (after escape p heard).port

-- This was said of it after what was said before.
abbrev pub Says : ℕ → Place → Heard → List DisplayNote → List DisplayNote → Type 0
Says escape p heard before now = (answer : Option (String Global)) × (now ≡ before ++ notes_by escape p heard answer)

-- These notes are what is said of all that is heard, one after another, whatever the interpreter answers.
abbrev pub Tells : ℕ → Place → List Heard → List DisplayNote → Type 0
Tells escape p [] notes = notes ≡ []
Tells escape p (heard ∷ more) notes =
    (answer : Option (String Global)) × (rest : List DisplayNote) × (notes ≡ notes_by escape p heard answer ++ rest) × Tells escape (after escape p heard) more rest

-- what is said of a command line that is open when no more is heard
abbrev pub closing : Place → List DisplayNote
closing p = if has_line p.line then DisplayNote.Closed p.port ∷ [] else []
