-- What the devices do of what a host says, and what whoever calls is told of it.
use Rattle.std.specs.Prelude.{◌≡◌, ◌⊎◌, ◌<◌, ℕ, ◌==◌, Bool, true, false, not, is_none, nat_lt, if◌then◌else◌, List, length, slice_index, slice_index_or, slice_get, Option, Some, None, Result, Ok, Err}
use Rattle.arbiter_core.specs.declared.arbiter.Won as arbiter
use Rattle.disk_dcdd.specs.declared.address.SectorAddress.{SectorAddress}
use Rattle.disk_dcdd.specs.declared.sector.SectorWrite.{SectorWrite}
use Rattle.event_callbacks.specs.declared.devices.TheConstants.{PORTS}
use Rattle.host_frames.specs.Frames.{IsBodyOf, Said, Packet, Transfers, Tells}
use Rattle.host_frames.specs.declared.frame.Notice.{Notice}
use Rattle.host_frames.specs.declared.frame.Notice.TheVariants.{Join, Progress, Report, Suspect}
use Rattle.host_frames.specs.declared.frame.Transfer.{Transfer}
use Rattle.host_frames.specs.declared.frame.Transfer.TheVariants.{Byte, Get, Inspected, Write}
use Rattle.i8080_words.specs.declared.refusal.Fault.{Fault}
use Rattle.i8080_words.specs.declared.refusal.Fault.TheVariants as fault
use Rattle.outside_switch.specs.DeviceCalls.{Asks, Puts, Reads, arrived_after, is_accepted, told_after}
use Rattle.outside_switch.specs.Held.{Held}
use Rattle.outside_switch.specs.Terminal.{KeptTerminal}
use Rattle.shared_disk.specs.declared.disk.SectorRead.{SectorRead}
use Rattle.outside_switch.specs.Lines.{number_at}
use Rattle.outside_switch.specs.declared.heard.BodyOutcome.{BodyOutcome}
use Rattle.outside_switch.specs.declared.heard.BodyOutcome.TheVariants.{Became, Failed, Lost, Met, Read, Shown, Unwritten, Won, Written, Ended, Nothing}
use Rattle.outside_switch.specs.declared.line.HostLine.{HostLine}

-- whether the screen of a port has room
abbrev pub room_of : List Bool → ℕ → Bool
room_of rooms port = if port == 0 then slice_index_or rooms 0 false else slice_index_or rooms 1 false

-- a byte is to be shown exactly if its terminal accepts it
abbrev pub shown_if : Bool → ℕ → ℕ → BodyOutcome
shown_if accepts port byte = if accepts then Shown port byte else Met

-- a frame that names no place means that its host has failed
abbrev pub passed_if : ℕ → ℕ → BodyOutcome
passed_if places host = if nat_lt host places then Met else Failed

-- keys are told to be covered, unless none are
abbrev pub told_unless : List KeptTerminal → ℕ → ℕ → List KeptTerminal
told_unless terminals port keys = if keys == 0 then terminals else told_after terminals port keys

abbrev pub Stays : Held → Held → BodyOutcome → BodyOutcome → Type 0
Stays old new heard is = (new ≡ old) × (heard ≡ is)

-- a sector was read, or was not
abbrev pub read_if : Result SectorRead Fault → SectorAddress → BodyOutcome
read_if (Ok read) address = Read address
read_if (Err why) address = Met

-- a write is put or refused
abbrev pub Writes : SectorWrite → Held → Held → BodyOutcome → Type 0
Writes write old new Written = Puts old.records write (Ok tt) new.records
Writes write old new Unwritten = (why : Fault) × Puts old.records write (Err why) new.records
Writes write old new heard = ⊥

abbrev pub HeedsTransfer : List Bool → Transfer → Held → Held → BodyOutcome → Type 0
HeedsTransfer rooms (Byte port number byte) old new heard =
    (new ≡ record old { terminals = arrived_after old.terminals port number (room_of rooms port) })
    × (heard ≡ shown_if (is_accepted old.terminals port number (room_of rooms port)) port byte)
HeedsTransfer rooms (Write write) old new heard = Writes write old new heard
HeedsTransfer rooms (Get address) old new heard =
    (result : Result SectorRead Fault) × (Reads old.records address result new.records × (heard ≡ read_if result address))
HeedsTransfer rooms (Inspected number count bytes) old new heard = Stays old new heard Met
HeedsTransfer rooms transfer old new heard = Stays old new heard Failed

-- the arbiter is asked by the host of a number
abbrev pub Asked : Option ℕ → ℕ → Held → Held → BodyOutcome → Type 0
Asked None generation old new heard = Stays old new heard Met
Asked (Some host) generation old new (Won won) =
    (won ≡ generation) × ((answer : arbiter.Won) × Asks old.askings generation host (Ok answer) new.askings)
Asked (Some host) generation old new (Lost lost) =
    (lost ≡ generation) × Asks old.askings generation host (Err fault.Lost) new.askings
Asked (Some host) generation old new heard =
    (heard ≡ Met) × ((why : Fault) × Asks old.askings generation host (Err why) new.askings)

abbrev pub HeedsNotice : ℕ → Option ℕ → Notice → Held → Held → BodyOutcome → Type 0
HeedsNotice places number (Suspect generation) old new heard = Asked number generation old new heard
HeedsNotice places number (Report report) old new heard =
    (new ≡ record old {
      terminals = told_unless (told_unless old.terminals 0 (slice_index report.covered 0)) 1 (slice_index report.covered 1);
    })
    × ((heard ≡ Met) ⊎ (heard ≡ Became report.role))
HeedsNotice places number (Join generation host drives count) old new heard = Stays old new heard (passed_if places host)
HeedsNotice places number (Progress host entries count) old new heard = Stays old new heard (passed_if places host)
HeedsNotice places number notice old new heard = Stays old new heard Failed

-- of the host of a number, if it has one, among so many places
abbrev pub Heeds : ℕ → Option ℕ → List Bool → Said → Held → Held → BodyOutcome → Type 0
Heeds places number rooms (Packet host bytes) old new heard = Stays old new heard (passed_if places host)
Heeds places number rooms (Transfers transfer) old new heard = HeedsTransfer rooms transfer old new heard
Heeds places number rooms (Tells notice) old new heard = HeedsNotice places number notice old new heard

-- the same, of the host at a place
abbrev pub HeedsAt : ℕ → List Bool → Said → List HostLine → Held → Held → BodyOutcome → Type 0
HeedsAt place rooms said lines old new heard = Heeds (length lines) (number_at lines place) rooms said old new heard

-- whether a host is at a place that is not cut off
abbrev pub open_in : Option HostLine → Bool
open_in None = false
open_in (Some line) = not (is_none line.to)

-- at the other places no host is cut off that was not before
abbrev pub OthersStay : ℕ → List HostLine → List HostLine → Type 0
OthersStay place old new = (other : ℕ) → (other ≡ place → ⊥) → open_in (slice_get new other) ≡ open_in (slice_get old other)

-- whether a body says that its stream has ended: it is empty, which no frame's body is
abbrev pub is_end : List ℕ → Bool
is_end body = length body == 0

-- an end is no body that was dropped
abbrev pub dropped_as : List ℕ → BodyOutcome
dropped_as body = if is_end body then Nothing else Met

-- one that sends what is no frame has failed
abbrev pub HeedsUnless : Bool → ℕ → List Bool → List ℕ → List HostLine → Held → Held → BodyOutcome → Type 0
HeedsUnless true place rooms body lines old new heard = Stays old new heard Ended
HeedsUnless false place rooms body lines old new heard =
    ((said : Said) × IsBodyOf said body × HeedsAt place rooms said lines old new heard)
    ⊎ (((said : Said) → IsBodyOf said body → ⊥) × Stays old new heard Failed)

-- what comes from a host that is cut off is dropped
abbrev pub HeedsOpen : Bool → ℕ → List Bool → List ℕ → List HostLine → Held → Held → BodyOutcome → Type 0
HeedsOpen false place rooms body lines old new heard = Stays old new heard (dropped_as body)
HeedsOpen true place rooms body lines old new heard = HeedsUnless (is_end body) place rooms body lines old new heard

abbrev pub HeedsBody : ℕ → List Bool → List ℕ → List HostLine → Held → Held → BodyOutcome → Type 0
HeedsBody place rooms body lines old new heard =
    HeedsOpen (open_in (slice_get lines place)) place rooms body lines old new heard

-- a byte is shown only on the screen of a port, and if that has room
abbrev pub HasRoomFor : List Bool → BodyOutcome → Type 0
HasRoomFor rooms (Shown port byte) = (port < PORTS) × (room_of rooms port ≡ true)
HasRoomFor rooms _ = Unit {0}
