-- What each call answers, and what it leaves: over the terminals, the arbiter's askings and the disk's records alone.
use Rattle.std.specs.Prelude.{◌≡◌, ℕ, ◌+◌, ◌==◌, ◌&&◌, Bool, nat_lt, ok_or, if◌then◌else◌, List, slice_index_or, slice_set, Some, Result, Ok, Err}
use Rattle.arbiter_core.specs.Winners.{IsAnswer, after_asking, winner_of}
use Rattle.arbiter_core.specs.declared.arbiter.Asking.{Asking}
use Rattle.arbiter_core.specs.declared.arbiter.Won.{Won}
use Rattle.disk_dcdd.specs.Address.{address_of}
use Rattle.disk_dcdd.specs.declared.address.SectorAddress.{SectorAddress}
use Rattle.disk_dcdd.specs.declared.sector.SectorWrite.{SectorWrite}
use Rattle.event_callbacks.specs.declared.devices.TheConstants.{PORTS}
use Rattle.i8080_words.specs.declared.refusal.Fault.{Fault}
use Rattle.i8080_words.specs.declared.refusal.Fault.TheVariants.{Unknown, WrongNumber}
use Rattle.shared_disk.specs.Arrivals.{after_put, read_at}
use Rattle.shared_disk.specs.Records.{IsThere, refusal_at}
use Rattle.shared_disk.specs.declared.disk.SectorRead.{SectorRead}
use Rattle.shared_disk.specs.declared.store.Record.{Record}
use Rattle.outside_switch.specs.Terminal.{KeptTerminal, after_arrival, after_telling, after_typing, blank, comes_next, key_of, typing_answer}

-- ---- the terminals

-- the terminal of a port
abbrev pub terminal_at : List KeptTerminal → ℕ → KeptTerminal
terminal_at terminals port = slice_index_or terminals port blank

-- a key is typed: its index, or why it is refused
abbrev pub typed_answer : List KeptTerminal → ℕ → Result ℕ Fault
typed_answer terminals port = if nat_lt port PORTS then typing_answer (terminal_at terminals port) else Err Unknown

abbrev pub typed_after : List KeptTerminal → ℕ → ℕ → List KeptTerminal
typed_after terminals port byte =
    if nat_lt port PORTS then slice_set terminals port (after_typing (terminal_at terminals port) byte) else terminals

-- the key of an index
abbrev pub key_answer : List KeptTerminal → ℕ → ℕ → Result ℕ Fault
key_answer terminals port index = ok_or (key_of (terminal_at terminals port) index) Unknown

-- a byte arrives: whether it is accepted
abbrev pub is_accepted : List KeptTerminal → ℕ → ℕ → Bool → Bool
is_accepted terminals port number room = nat_lt port PORTS && room && comes_next (terminal_at terminals port) number

abbrev pub arrived_after : List KeptTerminal → ℕ → ℕ → Bool → List KeptTerminal
arrived_after terminals port number room =
    if is_accepted terminals port number room
    then slice_set terminals port (after_arrival (terminal_at terminals port) number)
    else terminals

-- a host tells how many keys are covered
abbrev pub told_after : List KeptTerminal → ℕ → ℕ → List KeptTerminal
told_after terminals port keys =
    if nat_lt port PORTS then slice_set terminals port (after_telling (terminal_at terminals port) keys) else terminals

-- ---- the arbiter

-- a host asks for a generation: the answer, and the askings that won; one that is not Ok has changed nothing
abbrev pub Asks : List Asking → ℕ → ℕ → Result Won Fault → List Asking → Type 0
Asks old generation host (Ok won) new =
    IsAnswer (winner_of old generation) host (Ok won) × (new ≡ after_asking old generation host)
Asks old generation host (Err fault) new = IsAnswer (winner_of old generation) host (Err fault) × (new ≡ old)

-- ---- the disk

-- a write arrives at a sector that is there, where the greater number stays; or it does not arrive
abbrev pub Puts : List Record → SectorWrite → Result (Unit {0}) Fault → List Record → Type 0
Puts old write (Ok done) new = IsThere old (address_of write) × (new ≡ after_put old write)
Puts old write (Err fault) new = (fault ≡ refusal_at old (address_of write)) × (new ≡ old)

-- a sector is read
abbrev pub Reads : List Record → SectorAddress → Result SectorRead Fault → List Record → Type 0
Reads old address (Ok read) new = (read_at old address ≡ Some read) × (new ≡ old)
Reads old address (Err fault) new = (fault ≡ refusal_at old address) × (new ≡ old)

-- ---- the hosts

-- a host is there, if its number is the next one
abbrev pub admitted_answer : ℕ → ℕ → Result (Unit {0}) Fault
admitted_answer hosts host = if host == hosts then Ok tt else Err WrongNumber

abbrev pub admitted_after : ℕ → ℕ → ℕ
admitted_after hosts host = if host == hosts then hosts + 1 else hosts
