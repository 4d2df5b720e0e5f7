-- What a turn of a worker leaves.
use Rattle.std.specs.Prelude.{◌||◌, ℕ, Bool, true, false, if◌then◌else◌, Result, Ok, Err}
use Rattle.guest_lockstep.specs.Machine.{Machine}
use Rattle.guest_lockstep.specs.Running.{RunsOn}
use Rattle.guest_lockstep.specs.declared.running.Stopped.{Stopped}
use Rattle.i8080_words.specs.declared.refusal.Fault.{Fault}
use Rattle.pair_threads.specs.declared.worker.Turn.{Turn}
use Rattle.pair_threads.specs.declared.worker.Turn.TheVariants.{Moved, Looks, Waits, Ends}

-- a worker that continues is ready for its next turn, one that ends is at its end
abbrev pub Leaves : Result Turn Fault → Type 0 → Type 0 → Type 0
Leaves (Ok Moved) ready ended = ready
Leaves (Ok Looks) ready ended = ready
Leaves (Ok Waits) ready ended = ready
Leaves (Ok Ends) ready ended = ended
Leaves (Err fault) ready ended = Unit {0}

-- a turn of the link or the terminals: it waits if it had nothing in hand, and has found nothing
abbrev pub turn_by : Bool → Bool → Turn
turn_by had has = if had || has then Moved else Waits

-- a turn of the disk: it waits if it has found no request, or if the disk fails the one that it has
abbrev pub disk_turn : Bool → Bool → Turn
disk_turn false has = if has then Moved else Waits
disk_turn true has = if has then Waits else Moved

-- a guest runs by itself, as many steps as it may make
abbrev pub RunsFor : {S : Type 0} → Machine S → S → ℕ → S → Type 0
RunsFor M s steps t = (stopped : Stopped) × RunsOn M s steps stopped t
