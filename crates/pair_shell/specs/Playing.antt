-- What a tape says of a pair.
use Rattle.guest_parts.specs.Guest.{Guest}
use Rattle.std.specs.Prelude.{ℕ, ◌&&◌, nat_lt, not, Bool, false, List, Option, Result, map}
use Rattle.std.specs.Option.{option_map_or}
use Rattle.guest_lockstep.specs.Machine.{Machine}
use Rattle.i8080_words.specs.declared.refusal.Fault.{Fault}
use Rattle.pair_events.specs.declared.event.Event.{Event}
use Rattle.pair_events.specs.declared.reply.Reply.{Reply}
use Rattle.shared_disk.specs.Failing.{Disk}
use Rattle.altair_pair.specs.Disks.{over_records}
use Rattle.ft_world.specs.Applies.{Runs, Shows}
use Rattle.ft_world.specs.Running.{Running}
use Rattle.ft_world.specs.Standing.{Course}
use Rattle.shell_language.specs.declared.tape.Played.{Played}
use Rattle.shell_picture.specs.Rounds.{may_pause}
use Rattle.shell_picture.specs.declared.day.Day.{Day}

-- the events of a tape, and their answers
abbrev pub events_of : List Played → List Event
events_of tape = map (λ (p : Played). p.event) tape

abbrev pub answers_of : List Played → List (Result Reply Fault)
answers_of tape = map (λ (p : Played). p.answer) tape

-- Whatever world was shown before, the events of the tape have happened in it, one after another, with the answers of the
-- tape. The world after them is shown, it is faithful, and what was settled before has grown.
abbrev pub Plays : {B H S : Type 0} → (B → S) → (B → Guest) → Machine S → Running B H Disk → List Played
    → Running B H Disk → Type 0
Plays {S = S} state copied M old tape new =
    (c : Course S) → Shows state copied M (λ records. records) (over_records old) c
    → Runs state copied M (λ records. records) c (events_of tape) (answers_of tape) (over_records new)

-- a tape has become longer, or stayed as it was: whatever has played it before has played the longer one now
abbrev pub Lengthens : {B H S : Type 0} → (B → S) → (B → Guest) → Machine S → Running B H Disk → Running B H Disk
    → List Played → List Played → Type 0
Lengthens {B = B} {H = H} state copied M old new tape longer =
    (before : Running B H Disk) → Plays state copied M before tape old → Plays state copied M before longer new

-- a day pauses after the first event at which it may, once its tape has a million of them
abbrev pub pauses : ℕ → Event → Option Day → Bool
pauses taped happened day = not (nat_lt taped 1000000) && option_map_or (may_pause happened) day false
