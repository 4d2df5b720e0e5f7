-- The single machine as it represents itself, and the guest that it stands for.
use Rattle.std.specs.Prelude.{◌≡◌, ℕ, ◌+◌, ◌==◌, Bool, reverse, nat_lt, ◌&&◌, if◌then◌else◌, Option, Some, None, List, [], ◌∷◌}
use Rattle.std.specs.FinMap as map
use Rattle.i8080_words.specs.declared.refusal.Fault.{Fault}
use Rattle.i8080_words.specs.declared.refusal.Fault.TheVariants.{OutOfMemory, Spent, NotDue, Idle}
use Rattle.i8080_words.specs.declared.registers.Processor.{Processor}
use Rattle.serial_2sio.specs.Port as serial
use Rattle.disk_dcdd.specs.Drive as drives
use Rattle.disk_dcdd.specs.Completion as completion
use Rattle.disk_dcdd.specs.declared.address.SectorAddress.{SectorAddress}
use Rattle.i8080_words.specs.declared.limits.TheConstants.{GREATEST_NUMBER}
use Rattle.event_callbacks.specs.Operations.{Operations}
use Rattle.guest_parts.specs.Guest.{Guest}
use Rattle.guest_board.specs.Guest.{step_of, wired_after, is_spent, is_idle}
use Rattle.plain_single.specs.Behind.{Behind, behind_of, devices_of, after_wired}
use Rattle.plain_single.specs.Image.{IsSector, sector_at}
use Rattle.guest_lockstep.specs.Reach.{bytes_after}
use Rattle.plain_single.specs.Serial as serial_line
use Rattle.plain_single.specs.Serial.{due_unless}
use Rattle.plain_single.specs.declared.machine.Machine.{Machine}
use Rattle.guest_lockstep.specs.declared.timed.Bare.{Bare}
use Rattle.guest_lockstep.specs.declared.timed.Bare.TheVariants.{Rx, Sent, Sector, Written}

-- the processor, what it is wired to, the disk by its places, the count and the interrupt levels
pub record SingleState : Type 0 where
  pub processor : Processor
  pub behind : Behind
  pub disk : List (List ℕ)
  pub count : ℕ
  pub levels : List ℕ

-- what the fields mean
abbrev pub state_of : Machine → SingleState
state_of m = record {
  processor = m.processor;
  behind = behind_of m.wires;
  disk = m.disk.sectors.items;
  count = m.count;
  levels = m.levels;
}

-- the output of a port
abbrev pub output_of : SingleState → ℕ → List ℕ
output_of a port = if port == 0 then a.behind.first.output else a.behind.second.output

-- the guest with these parts, with outstanding operations and last completed writes, which nothing here depends on
abbrev pub guest_with : SingleState → Operations → List ℕ → Guest
guest_with a operations completed = record {
  processor = a.processor;
  memory = a.behind.memory;
  devices = devices_of a.behind;
  operations = operations;
  issued = a.behind.first.issued ∷ a.behind.second.issued ∷ [];
  completed = completed;
  count = a.count;
  keys = a.behind.first.keys ∷ a.behind.second.keys ∷ [];
  levels = a.levels;
  sense = a.behind.sense;
}

abbrev pub guest_of : SingleState → Guest
guest_of a = guest_with a map.empty []

-- it is that guest in all but the outstanding operations and the last completed writes
abbrev pub StandsFor : SingleState → Guest → Type 0
StandsFor a g = guest_with a g.operations g.completed ≡ g

-- ---- a step

-- what idling on the way to a count means: past the limit, the machine is spent
abbrev pub idle_towards : ℕ → Fault
idle_towards last = if nat_lt GREATEST_NUMBER last then Spent else Idle

-- why no step is executed on the way to a count: a number is spent, or else the machine idles
abbrev pub step_refusal : ℕ → SingleState → Option Fault
step_refusal last a =
    if is_spent (guest_of a) then Some Spent else if is_idle (guest_of a) then Some (idle_towards last) else None

-- a step is refused for that reason, or out of memory
abbrev pub RefusesStep : ℕ → SingleState → Fault → Type 0
RefusesStep last a OutOfMemory = Unit {0}
RefusesStep last a fault = step_refusal last a ≡ Some fault

-- after a step
abbrev pub after_step : SingleState → SingleState
after_step a = record {
  processor = (step_of (guest_of a)).after;
  behind = after_wired a.behind (wired_after (guest_of a));
  disk = a.disk;
  count = a.count + 1;
  levels = a.levels;
}

-- ---- an input

-- a key may arrive at a port
abbrev pub may_take_key : Behind → ℕ → Bool
may_take_key b port =
    if port == 0 then nat_lt b.first.keys GREATEST_NUMBER else port == 1 && nat_lt b.second.keys GREATEST_NUMBER

-- a port has a byte that is not accepted
abbrev pub may_accept : Behind → ℕ → Bool
may_accept b port = if port == 0 then serial.is_sent_due b.first.port else port == 1 && serial.is_sent_due b.second.port

-- the sector of this number on the track that a drive's head is at
abbrev pub address_under : drives.Drives → ℕ → ℕ → SectorAddress
address_under d drive sector = record { drive = drive; track = (drives.drive_of d drive).track; sector = sector }

-- why an input is refused
abbrev pub input_refusal : SingleState → Bare → Option Fault
input_refusal a (Rx port byte) = due_unless (may_take_key a.behind port)
input_refusal a (Sent port) = due_unless (may_accept a.behind port)
input_refusal a (Sector drive sector) =
    if completion.is_selected a.behind.disk drive then completion.sector_refusal a.behind.disk sector else Some NotDue
input_refusal a (Written number) = completion.written_refusal a.behind.disk number

-- what the processor is wired to, after an input
abbrev pub after_key : Behind → ℕ → ℕ → Behind
after_key b port byte =
    if port == 0
    then record b { first = serial_line.after_key b.first byte }
    else record b { second = serial_line.after_key b.second byte }

abbrev pub after_accept : Behind → ℕ → Behind
after_accept b port =
    if port == 0
    then record b { first = serial_line.with_port b.first (serial.after_sent b.first.port) }
    else record b { second = serial_line.with_port b.second (serial.after_sent b.second.port) }

abbrev pub after_input : SingleState → Bare → Behind
after_input a (Rx port byte) = after_key a.behind port byte
after_input a (Sent port) = after_accept a.behind port
after_input a (Sector drive sector) = record a.behind {
  disk = completion.after_sector a.behind.disk sector (sector_at a.disk (address_under a.behind.disk drive sector));
}
after_input a (Written number) = record a.behind { disk = completion.after_written a.behind.disk number }

-- what a sector of the disk has after an input
abbrev pub disk_after : SingleState → Bare → SectorAddress → List ℕ
disk_after a (Rx port byte) address = sector_at a.disk address
disk_after a (Sent port) address = sector_at a.disk address
disk_after a (Sector drive sector) address = sector_at a.disk address
disk_after a (Written number) address = bytes_after (reverse a.behind.writes) number address (sector_at a.disk address)

-- after an input that left the disk in this state
abbrev pub after_taking : SingleState → Bare → List (List ℕ) → SingleState
after_taking a input disk = record a { behind = after_input a input; disk = disk }

-- if a sector comes under the head, a drive has it
abbrev pub ReadsSector : SingleState → Bare → Type 0
ReadsSector a (Sector drive sector) = IsSector (address_under a.behind.disk drive sector)
ReadsSector a (Rx port byte) = Unit {0}
ReadsSector a (Sent port) = Unit {0}
ReadsSector a (Written number) = Unit {0}
