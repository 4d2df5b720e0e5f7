-- What each part of a round makes happen, and what it leaves of the day.
use Rattle.std.specs.Prelude.{◌≡◌, ℕ, zero, suc, ◌+◌, ◌-◌, ◌==◌, ◌&&◌, ◌||◌, nat_lt, nat_le, min, Bool, false, not, if◌then◌else◌, List, [], ◌∷◌, ◌++◌, Option, Some, None, is_some, option_map, option_to_list, length, vec_len}
use Rattle.std.specs.Option.{option_map_or}
use Rattle.pair_events.specs.declared.event.Event.{Event}
use Rattle.pair_events.specs.declared.event.Event.TheVariants as event
use Rattle.shell_language.specs.Notes.{notes_of}
use Rattle.shell_language.specs.declared.book.Book.{Book}
use Rattle.shell_picture.specs.declared.day.Day.{Day}
use Rattle.shell_picture.specs.declared.ending.DayEnd.TheVariants.{WaitsForKey}
use Rattle.shell_picture.specs.declared.phase.Phase.{Phase}
use Rattle.shell_picture.specs.declared.phase.Phase.TheVariants as round
use Rattle.shell_picture.specs.declared.series.Series.TheVariants as series
use Rattle.shell_picture.specs.Links.{Carries}
use Rattle.shell_picture.specs.Rounds.{begun}
use Rattle.shell_picture.specs.Routes.{arrival_at}
use Rattle.shell_picture.specs.Series.{event_of, run_of}

-- how many messages were sent so far
abbrev pub messages : Book → ℕ
messages book = length book.letters.items

-- of both ports
abbrev pub both : (ℕ → List Event) → List Event
both of = of 0 ++ of 1

-- A key may be taken at a port if the guest idles, or has made 500 steps since it took one there. One is, if one waits.
abbrev pub since_key : Day → ℕ → Option ℕ
since_key day zero = Some day.since_key0
since_key day (suc zero) = Some day.since_key1
since_key day (suc (suc n)) = None

abbrev pub may_take : Day → ℕ → Bool
may_take day port = option_map_or (λ steps. nat_le 500 steps || day.is_idle) (since_key day port) false

abbrev pub key_at : Day → Book → ℕ → List Event
key_at day book port =
    if nat_lt (notes_of book.ports port).taken (notes_of book.ports port).typed && may_take day port
    then event.TakeKey day.node port (notes_of book.ports port).taken ∷ [] else []

-- the disk is not asked while a pause lasts, unless the guest idles
abbrev pub pauses : Day → Bool
pauses day = nat_lt 0 day.looks && not day.is_idle

abbrev pub sector_asked : Day → List Event
sector_asked day = if pauses day then [] else event.Get day.node day.sector ∷ []

abbrev pub looked : Day → Book → Day
looked day book = record day { mark = messages book; looks = if pauses day then day.looks - 1 else day.looks }

-- a guest that idles waits until it is given an input
abbrev pub waits : Day → Bool
waits day = day.is_idle && not day.was_given

-- it makes 500 steps, or those that are left of the day
abbrev pub steps_made : Day → List Event
steps_made day = if waits day then [] else event.Step day.node (min (day.turns - day.made) 500) ∷ []

-- a day in which the guest waits ends; after 8 rounds, if an input may be lost on the link
abbrev pub patience : ℕ → ℕ
patience percent = if percent == 0 then 0 else 8

abbrev pub waited : Day → Day
waited day =
    if waits day then
    (if nat_le (patience day.link.percent) day.rounds_idle then record day { ending = Some WaitsForKey }
    else record day { rounds_idle = day.rounds_idle + 1 })
    else day

-- the messages that are sent from here on are those of this part
abbrev pub marked : Day → Book → Day
marked day book = record day { mark = messages book }

-- the primary sends what its backup has not acknowledged
abbrev pub entries_sent : Day → Book → List Event
entries_sent day book = option_map_or (λ (backup : ℕ). run_of (event_of (series.Entries day.node) book) book.held (book.logged - book.held)) day.backup []

-- the backup acknowledges if entries were sent to it; or if a write waits until it says what it has replayed, and it holds all
abbrev pub is_news : Day → Book → Bool
is_news day book = nat_lt day.mark (messages book) || (day.awaits_report && nat_le book.logged book.held)

abbrev pub acknowledged : Day → Book → List Event
acknowledged day book = if is_news day book then option_to_list (option_map (λ node. event.Acknowledge node) day.backup) else []

abbrev pub reported : Day → Book → Day
reported day book = record day {
  mark = messages book;
  awaits_report = if is_some day.backup && is_news day book then false else day.awaits_report;
}

-- the backup replays until its entries end, which a billion moves are enough for
abbrev pub replayed : Day → List Event
replayed day = option_to_list (option_map (λ node. event.Replay node 1000000000) day.backup)

-- the sector that the backup waits for is read
abbrev pub fetched : Day → List Event
fetched day = if day.awaits_sector then option_to_list (option_map (λ node. event.Fetch node) day.backup) else []

-- the terminal of a port is told, if the guest has taken keys of which it was not told that they are covered
abbrev pub told_at : Day → Book → ℕ → List Event
told_at day book port =
    if nat_lt (notes_of book.ports port).covered (notes_of book.ports port).taken then event.Told day.node port ∷ [] else []

-- the node releases what its guest has given and has not heard of: bytes of a port, and writes
abbrev pub bytes_released : Day → Book → ℕ → List Event
bytes_released day book port =
    run_of (event_of (series.Bytes day.node port) book) (notes_of book.ports port).heard
    ((notes_of book.ports port).sent - (notes_of book.ports port).heard)

abbrev pub writes_released : Day → Book → List Event
writes_released day book = run_of (event_of (series.Writes day.node) book) 0 (vec_len book.undone)

-- it is told of the bytes that its terminal has accepted, as far as its guest has given them
abbrev pub acceptances_told : Day → Book → ℕ → List Event
acceptances_told day book port =
    run_of (event_of (series.Acceptances day.node port) book) (notes_of book.ports port).heard
    (min (notes_of book.ports port).accepted (notes_of book.ports port).sent - (notes_of book.ports port).heard)

-- the messages that were sent in this part of the round go over the link
pub record CarriesOn (part : Phase) (day : Day) (book : Book) (old new : List Event) (day' : Day) : Type 0 where
  pub carried : Carries (arrival_at (record { part = part; node = day.node; backup = day.backup }) book) day.mark
      (messages book - day.mark) old new day.link day'.link
  pub same : day' ≡ record day { link = day'.link }

-- what a part of the round puts on the agenda, and the day after it
abbrev pub FillsPart : Phase → Day → Book → List Event → List Event → Day → Type 0
FillsPart round.Keys day book old new day' = (new ≡ old ++ both (key_at day book)) × (day' ≡ day)
FillsPart round.Get day book old new day' = (new ≡ old ++ sector_asked day) × (day' ≡ looked day book)
FillsPart round.Step day book old new day' = (new ≡ old ++ steps_made day) × (day' ≡ waited day)
FillsPart round.Send day book old new day' = (new ≡ old ++ entries_sent day book) × (day' ≡ marked day book)
FillsPart round.Acknowledge day book old new day' = (new ≡ old ++ acknowledged day book) × (day' ≡ reported day book)
FillsPart round.Replay day book old new day' = (new ≡ old ++ replayed day) × (day' ≡ day)
FillsPart round.Fetch day book old new day' =
    (new ≡ old ++ fetched day) × (day' ≡ record day { mark = messages book; awaits_sector = false })
FillsPart round.Tell day book old new day' = (new ≡ old ++ both (told_at day book)) × (day' ≡ day)
FillsPart round.Release day book old new day' =
    (new ≡ old ++ (both (bytes_released day book) ++ writes_released day book)) × (day' ≡ marked day book)
FillsPart round.Complete day book old new day' =
    CarriesOn round.Complete day book (old ++ both (acceptances_told day book)) new day'
FillsPart other day book old new day' = CarriesOn other day book old new day'

-- the part that comes next, if there is one
abbrev pub Fills : Option Phase → Day → Book → List Event → List Event → Day → Type 0
Fills None day book old new day' = (new ≡ old) × (day' ≡ day)
Fills (Some part) day book old new day' = FillsPart part (begun (Some part) day) book old new day'
