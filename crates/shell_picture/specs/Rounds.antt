-- A round of the ordinary day: the order of its parts, which of them comes next, and when the day is over. docs/SHELL.md has
-- a round in words.
use Rattle.std.specs.Prelude.{ℕ, ◌-◌, ◌==◌, ◌&&◌, ◌||◌, nat_lt, Bool, true, false, not, if◌then◌else◌, Option, Some, None, is_none, is_some, vec_len}
use Rattle.std.specs.List.{list_any}
use Rattle.pair_events.specs.declared.event.Event.{Event}
use Rattle.pair_events.specs.declared.event.Event.TheVariants as event
use Rattle.shell_language.specs.declared.book.Book.{Book}
use Rattle.shell_language.specs.declared.book.PortNotes.{PortNotes}
use Rattle.shell_picture.specs.declared.day.Day.{Day}
use Rattle.shell_picture.specs.declared.ending.DayEnd.TheVariants.{Polls}
use Rattle.shell_picture.specs.declared.phase.Phase.{Phase}
use Rattle.shell_picture.specs.declared.phase.Phase.TheVariants.{Keys, Get, Under, Step, Send, Log, Acknowledge, Acknowledged, Replay, Fetch, Fetched, Tell, Release, Arrive, Complete}

-- the part after another; after the last one a new round begins
abbrev pub after : Phase → Phase
after Keys = Get
after Get = Under
after Under = Step
after Step = Send
after Send = Log
after Log = Acknowledge
after Acknowledge = Acknowledged
after Acknowledged = Replay
after Replay = Fetch
after Fetch = Fetched
after Fetched = Tell
after Tell = Release
after Release = Arrive
after Arrive = Complete
after Complete = Keys

-- the guest has given bytes of a port that it has not heard of
abbrev pub is_out : PortNotes → Bool
is_out notes = nat_lt notes.heard notes.sent

-- something is on its way: entries that a backup has not acknowledged, or bytes or writes that the guest has not heard of
abbrev pub is_open : Option ℕ → Book → Bool
is_open backup book =
    (is_some backup && nat_lt book.held book.logged) || (list_any is_out book.ports || not (vec_len book.undone == 0))

-- keys of a port wait at its terminal
abbrev pub is_typed : PortNotes → Bool
is_typed notes = nat_lt notes.taken notes.typed

-- the node that has just made steps in a day that goes on, if nothing is left to do that could give its guest an input
abbrev pub has_nothing_left : Day → Book → Bool
has_nothing_left day book = is_none day.ending && (not (is_open day.backup book) && not (list_any is_typed book.ports))

abbrev pub left_waiting : Event → Day → Book → Option ℕ
left_waiting (event.Step node turns) day book = if has_nothing_left day book then Some node else None
left_waiting _ day book = None

-- A day that goes on may pause after steps: what else its round has is still to come, and then a new one.
abbrev pub may_pause : Event → Day → Bool
may_pause (event.Step node turns) day = is_none day.ending
may_pause _ day = false

-- its guest polls: the day ends
abbrev pub rested : Day → Day
rested day = record day { ending = Some Polls }

-- a round would begin, and the day has ended; the terminals would be told, and the backup has been handed a sector
abbrev pub is_begin : Phase → Bool
is_begin Keys = true
is_begin _ = false

abbrev pub is_telling : Phase → Bool
is_telling Tell = true
is_telling _ = false

abbrev pub at_end : Day → Bool
at_end day = is_begin day.phase && is_some day.ending

abbrev pub at_sector : Day → Bool
at_sector day = is_telling day.phase && day.has_sector

-- The part that comes next. A day that has ended goes on with what is to be sent, for as many rounds as it has left, and only
-- if something is on its way. A backup that was handed a sector goes on before the terminals are told.
abbrev pub part_next : Day → Book → Option Phase
part_next day book =
    if at_end day then (if nat_lt 0 day.rounds && is_open day.backup book then Some Send else None)
    else if at_sector day then Some Replay else Some day.phase

-- the day when that part has begun
abbrev pub begun : Option Phase → Day → Day
begun None day = day
begun (Some part) day = record day {
  phase = after part;
  rounds = if at_end day then day.rounds - 1 else day.rounds;
  has_sector = if at_sector day then false else day.has_sector;
}
