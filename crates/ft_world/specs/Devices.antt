-- What an event does at the terminals, and at the disk with the answer that it sends, over their own lists.
use Rattle.std.specs.Global.{Box}
use Rattle.std.specs.Prelude.{◌≡◌, ℕ, IsTrue, ◌<◌, ◌≤◌, ◌⊎◌, if◌then◌else◌, ◌==◌, ◌||◌, nat_lt, nat_le, Option, Some, None, List, [], ◌∷◌, ◌++◌, length, slice_index_or, slice_set, Result, Ok, Err}
use Rattle.disk_dcdd.specs.Address.{address_of}
use Rattle.disk_dcdd.specs.declared.address.SectorAddress.{SectorAddress}
use Rattle.disk_dcdd.specs.declared.sector.SectorWrite.{SectorWrite}
use Rattle.event_callbacks.specs.declared.devices.TheConstants.{PORTS}
use Rattle.event_callbacks.specs.declared.operations.OpId.{OpId}
use Rattle.event_callbacks.specs.declared.operations.OpId.TheVariants as id
use Rattle.i8080_words.specs.declared.refusal.Fault.{Fault}
use Rattle.i8080_words.specs.declared.refusal.Fault.TheVariants.{OutOfMemory, Unknown}
use Rattle.pair_protocol.specs.Refusals.{fault_if}
use Rattle.shared_disk.specs.Arrivals.{after_put, read_at}
use Rattle.shared_disk.specs.Records.{refusal_at}
use Rattle.shared_disk.specs.declared.disk.SectorRead.{SectorRead}
use Rattle.shared_disk.specs.declared.store.Record.{Record}
use Rattle.terminals.specs.Screen.{Screen, blank, comes_next, after_arrival, after_key}
use Rattle.ft_world.specs.declared.message.Message.{Message}
use Rattle.ft_world.specs.declared.message.Message.TheVariants as message
use Rattle.pair_events.specs.declared.reply.Reply.{Reply}
use Rattle.pair_events.specs.declared.reply.Reply.TheVariants as reply

-- the terminal of a port
abbrev pub screen_in : List Screen → ℕ → Screen
screen_in screens port = slice_index_or screens port blank

-- there is no such port; or there is, and the event is out of memory
abbrev pub LacksPort : ℕ → Fault → Type 0
LacksPort port fault = ((fault ≡ Unknown) × (PORTS ≤ port)) ⊎ ((fault ≡ OutOfMemory) × (port < PORTS))

-- a byte is typed, and its index is the reply
abbrev pub Types : List Screen → ℕ → ℕ → Result Reply Fault → List Screen → Type 0
Types old port byte (Ok r) new =
    (port < PORTS) × (r ≡ reply.Typed (length (screen_in old port).typed))
    × (new ≡ slice_set old port (after_key (screen_in old port) byte))
Types old port byte (Err fault) new = LacksPort port fault × (new ≡ old)

-- a byte arrives: it is accepted if it is the next one, and dropped if not; a byte for a port that does not exist is dropped
abbrev pub ArrivesAt : List Screen → ℕ → ℕ → ℕ → Reply → List Screen → Type 0
ArrivesAt old port number byte r new =
    (port < PORTS) × (r ≡ (if comes_next (screen_in old port) number then reply.Accepted else reply.Dropped))
    × (new ≡ slice_set old port (after_arrival (screen_in old port) number byte))

abbrev pub ArrivesNowhere : List Screen → ℕ → Reply → List Screen → Type 0
ArrivesNowhere old port r new = (PORTS ≤ port) × (r ≡ reply.Dropped) × (new ≡ old)

abbrev pub Arrives : List Screen → ℕ → ℕ → ℕ → Result Reply Fault → List Screen → Type 0
Arrives old port number byte (Ok r) new = ArrivesAt old port number byte r new ⊎ ArrivesNowhere old port r new
Arrives old port number byte (Err fault) new =
    (fault ≡ OutOfMemory) × (port < PORTS) × IsTrue (comes_next (screen_in old port) number) × (new ≡ old)

-- an operation is a byte for a port that does not exist
abbrev pub no_device : OpId → Option Fault
no_device (id.Byte port number) = fault_if (nat_le PORTS port) Unknown
no_device (id.Write number) = None

-- no byte of this number was accepted
abbrev pub not_accepted : List Screen → ℕ → ℕ → Option Fault
not_accepted screens port number =
    fault_if (number == 0 || nat_lt (length (screen_in screens port).accepted) number) Unknown

-- a write arrives at the disk, which answers that it is done
abbrev pub PutsWrite : List Message → List Record → SectorWrite → Result Reply Fault → List Message → List Record
    → Type 0
PutsWrite old records write (Ok r) new after =
    (r ≡ reply.Message (length old)) × (new ≡ old ++ message.Written write.number ∷ [])
    × (after ≡ after_put records write)
PutsWrite old records write (Err fault) new after =
    ((fault ≡ OutOfMemory) ⊎ (fault ≡ refusal_at records (address_of write))) × (new ≡ old) × (after ≡ records)

-- a sector is read, and what it has is sent
abbrev pub GetsSector : List Message → List Record → SectorAddress → Result Reply Fault → List Message → List Record
    → Type 0
GetsSector old records address (Ok r) new after =
    (read : Box SectorRead) × (read_at records address ≡ Some read.value) × (r ≡ reply.Message (length old))
    × (new ≡ old ++ message.Sector read ∷ []) × (after ≡ records)
GetsSector old records address (Err fault) new after =
    ((fault ≡ OutOfMemory) ⊎ (fault ≡ refusal_at records address)) × (new ≡ old) × (after ≡ records)
