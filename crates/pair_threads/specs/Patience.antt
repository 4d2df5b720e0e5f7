-- What progress is, who can make none alone, how long a worker waits for it, and when it gives up.
use Rattle.std.specs.Prelude.{◌≡◌, ◌⊎◌, ◌↔◌, ℕ, ◌+◌, ◌-◌, ◌*◌, ◌/◌, ◌%◌, ◌^◌, ◌<◌, ◌==◌, ◌||◌, ◌&&◌, not, nat_lt, min, Bool, true, false, if◌then◌else◌, Option, Some, None, unwrap_or, length, vec_len}
use Rattle.std.specs.Time.{instant_nanos}
use Rattle.std.specs.declared.time.Instant.{Instant}
use Rattle.pair_threads.specs.declared.gate.Who.{Who}
use Rattle.pair_threads.specs.declared.gate.Who.TheVariants.{Primary, Backup, Link}
use Rattle.pair_threads.specs.declared.pace.Pace.{Pace}
use Rattle.pair_threads.specs.declared.port_inputs.PortInputs.{PortInputs}
use Rattle.pair_threads.specs.declared.primary.PrimaryWorker.{PrimaryWorker}
use Rattle.pair_threads.specs.declared.recording.Recording.{Recording}
use Rattle.pair_threads.specs.declared.rest.Rest.{Rest}
use Rattle.pair_threads.specs.declared.rest.Rest.TheVariants.{Yield, Sleep}
use Rattle.pair_threads.specs.declared.signals.Told.{Told}
use Rattle.pair_threads.specs.declared.worker.Turn.{Turn}
use Rattle.pair_threads.specs.declared.worker.Turn.TheVariants.{Moved, Looks, Waits, Ends}
use Rattle.pair_threads.specs.declared.yields.LongYield.{LongYield}
use Rattle.pair_threads.specs.declared.yields.Yields.{Yields}
use Rattle.pair_threads.specs.Choosing.{left_after_waiting}

-- a primary's guest is held up if it idles, or an operation that it gave is outstanding
abbrev pub guest_is_held_up : {B : Type 0} → Recording B → Bool
guest_is_held_up r = r.idle || not (length r.given.items == 0)

-- a primary's worker tells the others that it is held up if its guest was when it ran last, or if keys are to be taken
abbrev pub has_keys : PortInputs → Bool
has_keys p = not (p.taken == vec_len p.typed)

abbrev pub is_held_up : {B : Type 0} → PrimaryWorker B → Bool
is_held_up w = w.held_up || has_keys w.port0 || has_keys w.port1

-- whose turns are progress: not the link's, which moves even when it loses one packet again and again
abbrev pub is_progress : Who → Bool
is_progress Link = false
is_progress who = true

-- the mark that a worker sets when it is at its end, one for each of the nodes; the others set none
abbrev pub end_mark : Who → ℕ
end_mark Primary = 1
end_mark Backup = 2
end_mark who = 0

-- who is at its end, by the marks of all that are
abbrev pub told_by : ℕ → Told
told_by marks = record { primary_ended = marks % 2 == 1; backup_ended = (marks / 2) % 2 == 1 }

-- a worker says that it made progress when it goes on after a wait, and once in 64 of its turns
abbrev pub is_noted : Bool → ℕ → Bool
is_noted waited left = waited || (left % 64 == 0)

-- since when a worker has seen no progress of any: since it last found that the count of it has changed
abbrev pub quiet_since : Instant → ℕ → Option Instant → ℕ → Option Instant
quiet_since now moves None before = Some now
quiet_since now moves (Some since) before = Some (if before == moves then since else now)

-- for how many nanoseconds that is
abbrev pub quiet_for : Instant → Option Instant → ℕ
quiet_for now None = 0
quiet_for now (Some since) = instant_nanos now - instant_nanos since

-- how many microseconds are between two moments
abbrev pub micros_between : Instant → Instant → ℕ
micros_between began ended = (instant_nanos ended - instant_nanos began) / 1000

-- for how many microseconds a worker that finds nothing yields, by whether a guest is held up
abbrev pub yields_for : Bool → ℕ
yields_for held_up = if held_up then 600 else 10

-- how a worker waits that has found nothing for so many microseconds, and has slept so often since: at first it yields, unless
-- a yield took long a short while ago; then it sleeps, five microseconds longer each time, up to 500
abbrev pub rest_after : ℕ → ℕ → Bool → Bool → Rest
rest_after micros sleeps held_up busy =
    if not busy && nat_lt micros (yields_for held_up) then Yield else Sleep (5 * (1 + min sleeps 99))

-- a yield took long if more than a millisecond passed
abbrev pub takes_long : Instant → Instant → Bool
takes_long began ended = nat_lt 1000 (micros_between began ended)

-- none is tried at this moment if the time since the last one that took long is less than so many times as long as it took
abbrev pub is_busy_after : Instant → Option LongYield → ℕ → Bool
is_busy_after now None shunned = false
is_busy_after now (Some long) shunned =
    not (shunned == 0) && nat_lt (micros_between long.ended now / shunned) (micros_between long.began long.ended)

abbrev pub is_busy : Instant → Yields → Bool
is_busy now y = is_busy_after now y.long y.shunned

-- what is noted of a yield between these moments: if it took long, none is tried for twice as many times as long and one more
-- than after the one before, 63 at most; otherwise for one time fewer. Nothing is noted of a sleep.
abbrev pub yields_after : Rest → Instant → Option Instant → Yields → Yields
yields_after Yield began (Some ended) before =
    if takes_long began ended
    then record { long = Some (record { began = began; ended = ended }); shunned = 2 * min before.shunned 31 + 1 }
    else record before { shunned = before.shunned - 1 }
yields_after Yield began None before = before
yields_after (Sleep micros) began ended before = before

-- how often it has slept then
abbrev pub sleeps_after : Rest → ℕ → ℕ
sleeps_after Yield sleeps = sleeps
sleeps_after (Sleep micros) sleeps = min (sleeps + 1) (2 ^ 32 - 1)

-- how a worker waits at this moment
abbrev pub rest_at : Instant → Bool → Pace → Rest
rest_at now held_up p =
    rest_after (micros_between (unwrap_or p.waiting now) now) p.sleeps held_up (is_busy now p.yields)

-- what is left after it has waited: at this moment it saw whether a guest is held up, and how much progress there was; and
-- a yield ended at that one. If the clock cannot be read, it has neither waited nor seen anything.
abbrev pub after_wait : Bool → Option Instant → Option Instant → Bool → ℕ → Pace → Pace
after_wait contested None ended held_up moves old = record old { left = left_after_waiting contested old.left }
after_wait contested (Some now) ended held_up moves old = record old {
  left = left_after_waiting contested old.left;
  waiting = Some (unwrap_or old.waiting now);
  sleeps = sleeps_after (rest_at now held_up old) old.sleeps;
  yields = yields_after (rest_at now held_up old) now ended old.yields;
  quiet = quiet_since now moves old.quiet old.moves;
  moves = moves;
}

-- it waits on until it has seen no progress for ten seconds, and without an end if somebody is planned to ask at a turn
abbrev pub WaitsOn : Bool → Option Instant → Option Instant → Bool → Type 0
WaitsOn contested None quiet goes_on = goes_on ≡ false
WaitsOn contested (Some now) quiet goes_on =
    (goes_on ≡ true) ↔ ((contested ≡ true) ⊎ (quiet_for now quiet < 10_000_000_000))

-- How a worker goes on after a turn, and whether it has another. If the turn moved, it has one turn less, and waits no longer;
-- if it is to look for something else at once, it does not rest; if it is to wait, it rests and looks at the clock; at its
-- end it has none.
abbrev pub PacedBy : Turn → Bool → Pace → Pace → Bool → Type 0
PacedBy Moved contested old new goes_on =
    (new ≡ record old { left = old.left - 1; waiting = None; sleeps = 0 }) × (goes_on ≡ true)
PacedBy Looks contested old new goes_on =
    (new ≡ record old { left = left_after_waiting contested old.left }) × (goes_on ≡ true)
PacedBy Waits contested old new goes_on =
    (now ended : Option Instant) × (held_up : Bool) × (moves : ℕ) × (new ≡ after_wait contested now ended held_up moves old)
    × WaitsOn contested now new.quiet goes_on
PacedBy Ends contested old new goes_on = (new ≡ old) × (goes_on ≡ false)
