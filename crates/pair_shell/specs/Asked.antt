-- The events that a line asks for.
use Rattle.std.specs.Prelude.{ℕ, ◌-◌, List, [], length, map}
use Rattle.clone_state.specs.Parts.{part_count}
use Rattle.pair_events.specs.declared.event.Event.{Event}
use Rattle.pair_events.specs.declared.event.Event.TheVariants.{TypeByte}
use Rattle.shell_language.specs.declared.book.Book.{Book}
use Rattle.shell_picture.specs.Series.{event_of, run_of}
use Rattle.shell_picture.specs.declared.series.Series.TheVariants as series
use Rattle.shell_language.specs.declared.line.ShellLine.{ShellLine}
use Rattle.shell_language.specs.declared.line.ShellLine.TheVariants as shell

-- Of a line with `all`: all entries and parts that were not sent yet, or all messages with an entry, a part or a byte that have
-- reached nobody yet. A machine has as many parts as its drives say. Other lines ask for none.
abbrev pub left_of : ShellLine → Book → ℕ → List Event
left_of (shell.SendAll node) book drives = run_of (event_of (series.Entries node) book) book.posted (book.logged - book.posted)
left_of (shell.LogAll node) book drives = run_of (event_of (series.EntriesOut node) book) 0 (length book.letters.items)
left_of (shell.SendPartAll node) book drives = run_of (event_of (series.Parts node) book) book.parts (part_count drives - book.parts)
left_of (shell.PartAll node) book drives = run_of (event_of (series.PartsOut node) book) 0 (length book.letters.items)
left_of shell.ArriveAll book drives = run_of (event_of series.BytesOut book) 0 (length book.letters.items)
left_of other book drives = []

-- the bytes of a text, each typed at a port
abbrev pub keys_of : ℕ → List ℕ → List Event
keys_of port text = map (λ (byte : ℕ). TypeByte port byte) text
