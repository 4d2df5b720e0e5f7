-- What the workers choose: what comes next, how much of it, and when.
use Rattle.std.specs.Prelude.{ℕ, zero, suc, ◌+◌, ◌-◌, ◌/◌, ◌%◌, ◌^◌, ◌==◌, ◌||◌, ◌&&◌, not, nat_lt, nat_le, min, Bool, true, false, if◌then◌else◌, Option, Some, None, is_some, is_none, option_map, option_and_then, Result, Ok, Err, List, vec_len, length}
use Rattle.std.specs.List.{find}
use Rattle.disk_dcdd.specs.declared.address.SectorAddress.{SectorAddress}
use Rattle.disk_dcdd.specs.declared.sector.SectorWrite.{SectorWrite}
use Rattle.event_callbacks.specs.declared.operations.OpId.{OpId}
use Rattle.event_callbacks.specs.declared.operations.OpId.TheVariants as id
use Rattle.event_callbacks.specs.declared.operations.Operation.{Operation}
use Rattle.event_callbacks.specs.declared.operations.Operation.TheVariants.{Byte, Write}
use Rattle.guest_lockstep.specs.Machine.{Machine, sector_refusal}
use Rattle.i8080_words.specs.declared.refusal.Fault.{Fault}
use Rattle.i8080_words.specs.declared.refusal.Fault.TheVariants.{OutOfMemory, SectorBusy, StaleRead, Stalled}
use Rattle.log_entry.specs.declared.entry.Entry.{Entry}
use Rattle.log_entry.specs.declared.entry.Entry.TheVariants.{Sector}
use Rattle.pair_threads.specs.declared.chore.Chore.{Chore}
use Rattle.pair_threads.specs.declared.chore.Chore.TheVariants.{See, Emit, Count, Accept, Key, Ask, Answer, Complete, Post, Run}
use Rattle.pair_threads.specs.declared.gate.Who.{Who}
use Rattle.pair_threads.specs.declared.gate.Who.TheVariants.{Primary, Backup}
use Rattle.pair_threads.specs.declared.port_inputs.PortInputs.{PortInputs}
use Rattle.pair_threads.specs.declared.primary.PrimaryWorker.{PrimaryWorker}
use Rattle.pair_threads.specs.declared.worker.Turn.{Turn}
use Rattle.pair_threads.specs.declared.worker.Turn.TheVariants.{Moved, Looks, Waits}

-- the rotation of a primary's chores
abbrev pub next_chore : Chore → Chore
next_chore See = Emit
next_chore Emit = Count
next_chore Count = Accept
next_chore Accept = Key
next_chore Key = Ask
next_chore Ask = Answer
next_chore Answer = Complete
next_chore Complete = Post
next_chore Post = Run
next_chore Run = See

-- what a turn is after a chore that changed something or nothing: after nothing a primary looks for something else at once;
-- but after twenty such turns in a row, which are two rotations, it waits after the last chore of each
abbrev pub turn_after : Bool → ℕ → Chore → Turn
turn_after true fruitless chore = Moved
turn_after false fruitless Run = if nat_le 20 fruitless then Waits else Looks
turn_after false fruitless chore = Looks

-- how many turns have then changed nothing in a row
abbrev pub fruitless_after : Bool → ℕ → ℕ
fruitless_after true fruitless = 0
fruitless_after false fruitless = if nat_lt fruitless 20 then fruitless + 1 else fruitless

-- a track has 32 sectors, one after another
abbrev pub next_sector : ℕ → ℕ
next_sector sector = (sector + 1) % 32

-- The sector to read, by the guest's refusal of it: if there is none, or a copy is stale, it is read; a busy one is passed
-- by; otherwise there is none to read.
abbrev pub due_by : Option Fault → SectorAddress → Option (SectorAddress × Bool)
due_by None address = Some (address, false)
due_by (Some StaleRead) address = Some (address, false)
due_by (Some SectorBusy) address = Some (address, true)
due_by (Some fault) address = None

abbrev pub due_sector : {S : Type 0} → Machine S → S → ℕ → Option (SectorAddress × Bool)
due_sector M s sector =
    option_and_then (λ drive. due_by (sector_refusal M s (M.address s drive sector) 0) (M.address s drive sector)) (M.selected s)

-- the oldest write, by the names of the operations in order
abbrev pub is_write : OpId → Bool
is_write (id.Write number) = true
is_write (id.Byte port number) = false

abbrev pub written : Operation → Option SectorWrite
written (Write w) = Some w
written (Byte port number byte) = None

abbrev pub due_write : {S : Type 0} → Machine S → S → List OpId → Option SectorWrite
due_write M s names = option_and_then written (option_and_then (M.find s) (find is_write names))

-- how many operations of a guest are in flight, with what was asked of the disk
abbrev pub in_flight : {B : Type 0} → PrimaryWorker B → ℕ
in_flight w = vec_len w.guest.given + (if w.asked || is_some w.answer then 1 else 0)

-- how many steps it may make in a turn: all, or a share of 2,000 while some are in flight
abbrev pub steps_by : ℕ → ℕ → ℕ
steps_by steps zero = steps
steps_by steps (suc n) = min (2000 / suc n) steps

-- how many bytes of a port it has seen accepted
abbrev pub counted_of : {B : Type 0} → ℕ → PrimaryWorker B → ℕ
counted_of port w = if port == 0 then w.counted0 else w.counted1

-- the entry to append: the one that waits, unless the log was found full
abbrev pub to_append : {B : Type 0} → PrimaryWorker B → Option Entry
to_append w = if w.full then None else w.guest.waiting

-- whether an entry is a sector, and whether none waits
abbrev pub is_sector : Entry → Bool
is_sector (Sector count drive sector number bytes) = true
is_sector _ = false

abbrev pub no_sector_waits : Option Entry → Bool
no_sector_waits None = true
no_sector_waits (Some e) = not (is_sector e)

-- whether all that its guest did is in the list, and acknowledged
abbrev pub is_covered : {B : Type 0} → PrimaryWorker B → Bool
is_covered w = is_none w.guest.waiting && (w.seen == length w.list.items)

-- an outstanding byte, by its port and its number
abbrev pub byte_of : Operation → Option ℕ
byte_of (Byte port number byte) = Some byte
byte_of (Write w) = None

abbrev pub byte_at : {S : Type 0} → Machine S → S → ℕ → ℕ → Option ℕ
byte_at M s port number = option_and_then byte_of (M.find s (id.Byte port number))

-- the byte to be given next at a port, with its number: the one after those seen accepted, if it is outstanding; after the
-- greatest number there is none
abbrev pub due_byte : {S : Type 0} → Machine S → S → ℕ → ℕ → Option (ℕ × ℕ)
due_byte M s port counted =
    if nat_lt (counted + 1) (2 ^ 64) then option_map (λ byte. (counted + 1, byte)) (byte_at M s port (counted + 1)) else None

-- a byte of a port may be given if one is due, and all that the guest did is acknowledged
abbrev pub may_emit : {B S : Type 0} → Machine S → S → ℕ → PrimaryWorker B → Bool
may_emit M s port w = is_covered w && is_some (due_byte M s port (counted_of port w))

-- of how many accepted bytes of a port its guest was told
abbrev pub accepted_of : {B : Type 0} → ℕ → PrimaryWorker B → ℕ
accepted_of port w = if port == 0 then w.port0.accepted else w.port1.accepted

-- the byte to give at a port, with its number
abbrev pub to_emit : {B S : Type 0} → Machine S → S → ℕ → PrimaryWorker B → Option (ℕ × ℕ)
to_emit M s port w = if is_covered w then due_byte M s port (counted_of port w) else None

-- which byte of a port it has given last
abbrev pub emitted_of : {B : Type 0} → ℕ → PrimaryWorker B → ℕ
emitted_of port w = if port == 0 then w.emitted0 else w.emitted1

-- what it keeps of the other port: what its guest took there, how many bytes it saw accepted, and which it has given last
abbrev pub at_other : {B : Type 0} → ℕ → PrimaryWorker B → PortInputs × ℕ × ℕ
at_other port w =
    if port == 0 then (w.port1, w.counted1, w.emitted1) else (w.port0, w.counted0, w.emitted0)

-- the acceptance of a byte is taken at once: only while an entry waits for the list, while a byte of the port may be given,
-- if no more bytes were seen accepted than the guest was told of, or if the guest has sent none
abbrev pub may_accept : {B S : Type 0} → Machine S → S → ℕ → PrimaryWorker B → Bool
may_accept M s port w =
    is_none w.guest.waiting && not (may_emit M s port w)
    && (nat_lt (accepted_of port w) (counted_of port w) && is_some (M.due_byte s port))

-- the entry that is posted next: after the last one, or the first that is not acknowledged if all were posted
abbrev pub post_next : ℕ → ℕ → ℕ → ℕ
post_next next seen entries = if nat_lt next seen || nat_le entries next then seen else next

-- how many turns a worker has left after one that found nothing: as many, unless somebody is planned to ask at a turn
abbrev pub left_after_waiting : Bool → ℕ → ℕ
left_after_waiting contested left = if contested then left - 1 else left

-- two workers together: out of memory before anything else, and stalled if one of them has failed at all
abbrev pub together : Result (Unit {0}) Fault → Result (Unit {0}) Fault → Result (Unit {0}) Fault
together (Ok done) (Ok done') = Ok done
together (Err OutOfMemory) other = Err OutOfMemory
together one (Err OutOfMemory) = Err OutOfMemory
together one other = Err Stalled

-- how many turns a worker has at most: primary and backup as many as they are given, the others as many as a table has swaps
abbrev pub turns_of : Who → ℕ → ℕ
turns_of Primary turns = turns
turns_of Backup turns = turns
turns_of other turns = 2 ^ 40
