-- The single machine: the Altair as a whole, its steps, its inputs, and how a pair sees it.
use Rattle.std.specs.Prelude.{ℕ, ◌+◌, ◌-◌, ◌*◌, Bool, nat_lt, nat_le, if◌then◌else◌, ◌&&◌, ◌||◌, Option, Some, None, List, [], ◌∷◌, slice_index, slice_set}
use Rattle.std.specs.Option.{option_map_or}
use Rattle.std.specs.FinMap as map
use Rattle.i8080_words.specs.Effects.{after_accesses}
use Rattle.i8080_words.specs.Steps.{Step, step, idles, at_reset}
use Rattle.i8080_words.specs.declared.registers.Processor.{Processor}
use Rattle.serial_2sio.specs.Port as serial
use Rattle.disk_dcdd.specs.Drive as drives
use Rattle.disk_dcdd.specs.Completion as completion
use Rattle.disk_dcdd.specs.Address.{address_of, index_of}
use Rattle.disk_dcdd.specs.declared.address.TheConstants.{DRIVE_SECTORS}
use Rattle.disk_dcdd.specs.declared.address.SectorAddress.{SectorAddress}
use Rattle.i8080_words.specs.declared.limits.TheConstants.{GREATEST_NUMBER}
use Rattle.event_callbacks.specs.Completions.{at_boot, port_of, is_due, done_of}
use Rattle.event_callbacks.specs.Operations.{Operations, operation_at, with_operation, without_operation}
use Rattle.event_callbacks.specs.declared.devices.Devices.{Devices}
use Rattle.event_callbacks.specs.declared.devices.Done.TheVariants as done
use Rattle.event_callbacks.specs.declared.devices.TheConstants.{PORTS}
use Rattle.event_callbacks.specs.declared.operations.OpId.TheVariants as id
use Rattle.event_callbacks.specs.declared.operations.Operation.{Operation}
use Rattle.event_callbacks.specs.declared.operations.Operation.TheVariants as operation
use Rattle.guest_memory.specs.Pages.{zeros}
use Rattle.guest_lockstep.specs.Machine.{Machine}
use Rattle.guest_board.specs.Ports.{Wired, memory_byte, port_byte, after_access, with_port}
use Rattle.guest_lockstep.specs.declared.input.Input.{Input}
use Rattle.guest_lockstep.specs.declared.input.Input.TheVariants.{Rx, Sent, Sector, Written}
use Rattle.guest_board.specs.declared.setup.Setup.{Setup}
use Rattle.guest_parts.specs.Guest.{Guest}

-- the guest that a setup describes
abbrev pub guest_at_boot : Setup → Guest
guest_at_boot setup = record {
  processor = at_reset;
  memory = setup.memory.items;
  devices = at_boot setup.drives;
  operations = map.empty;
  issued = 0 ∷ 0 ∷ [];
  completed = zeros (setup.drives * DRIVE_SECTORS);
  count = 0;
  keys = 0 ∷ 0 ∷ [];
  levels = setup.levels;
  sense = setup.sense;
}

-- ---- a step

-- the interrupt line: the level of the first active device, in the order port 0, port 1, disk
abbrev pub line_of : Devices → List ℕ → Option ℕ
line_of d levels =
    if serial.line_of (port_of d 0) then Some (slice_index levels 0)
    else if serial.line_of (port_of d 1) then Some (slice_index levels 1)
    else if drives.line_of d.disk then Some (slice_index levels 2)
    else None

-- what the processor is wired to, before the step
abbrev pub wired : Guest → Wired
wired g = record { memory = g.memory; devices = g.devices; issued = g.issued; sense = g.sense; given = None }

-- the step of the processor
unfoldable pub step_of : Guest → Step
step_of g = step g.processor (memory_byte (wired g)) (port_byte (wired g)) (line_of g.devices g.levels)

-- what the processor is wired to, after the step
unfoldable pub wired_after : Guest → Wired
wired_after g = after_accesses after_access (step_of g).accesses (wired g)

-- an operation that is given is outstanding
abbrev pub with_given : Operations → Option Operation → Operations
with_given operations None = operations
with_given operations (Some given) = with_operation operations given

-- the guest after a step that left its processor and what that is wired to in this state
abbrev pub stepped : Guest → Processor → Wired → Guest
stepped g processor w = record g {
  processor = processor;
  memory = w.memory;
  devices = w.devices;
  operations = with_given g.operations w.given;
  issued = w.issued;
  count = g.count + 1;
}

-- the guest after its step
abbrev pub next : Guest → Guest
next g = stepped g (step_of g).after (wired_after g)

-- the count, or a number of bytes or of writes, is at its greatest
abbrev pub is_spent_at : ℕ → List ℕ → ℕ → Bool
is_spent_at count issued writes =
    nat_le GREATEST_NUMBER count
    || nat_le GREATEST_NUMBER (slice_index issued 0)
    || nat_le GREATEST_NUMBER (slice_index issued 1)
    || nat_le GREATEST_NUMBER writes

abbrev pub is_spent : Guest → Bool
is_spent g = is_spent_at g.count g.issued g.devices.disk.issued

-- the processor is halted and accepts no interrupt
abbrev pub is_idle : Guest → Bool
is_idle g = idles g.processor (line_of g.devices g.levels)

-- one instruction or accepted interrupt, and the operation that it gives
abbrev pub step_from : Guest → Option (Guest × Option Operation)
step_from g = if is_spent g || is_idle g then None else Some (next g, (wired_after g).given)

-- ---- inputs

-- the number of the oldest byte of a port that is not accepted
abbrev pub oldest_byte : Guest → ℕ → ℕ
oldest_byte g port = slice_index g.issued port + 1 - (port_of g.devices port).unaccepted

abbrev pub due_byte : Guest → ℕ → Option ℕ
due_byte g port = if is_due g.devices (done.Sent port) then Some (oldest_byte g port) else None

-- a key is taken at a port
abbrev pub after_rx : Guest → ℕ → ℕ → Guest
after_rx g port byte = record g {
  devices = with_port g.devices port (serial.after_receive (port_of g.devices port) byte);
  keys = slice_set g.keys port (slice_index g.keys port + 1);
}

-- the oldest byte of a port is accepted
abbrev pub after_sent : Guest → ℕ → Guest
after_sent g port = record g {
  devices = done_of g.devices (done.Sent port);
  operations = without_operation g.operations (id.Byte port (oldest_byte g port));
}

-- a sector comes under the head
abbrev pub after_sector : Guest → ℕ → List ℕ → Guest
after_sector g sector bytes = record g { devices = done_of g.devices (done.Sector sector bytes) }

-- a write becomes the last completed one of its sector
abbrev pub with_completed : List ℕ → Option Operation → List ℕ
with_completed completed (Some (operation.Write write)) =
    option_map_or (λ index. slice_set completed index write.number) (index_of (address_of write)) completed
with_completed completed _ = completed

-- an outstanding write is done
abbrev pub after_written : Guest → ℕ → Guest
after_written g number = record g {
  devices = done_of g.devices (done.Written number);
  operations = without_operation g.operations (id.Write number);
  completed = with_completed g.completed (operation_at g.operations (id.Write number));
}

-- a key may be taken at a port while the number of its keys is not spent
abbrev pub may_take_key : Guest → ℕ → Bool
may_take_key g port = nat_lt port PORTS && nat_lt (slice_index g.keys port) GREATEST_NUMBER

-- a sector of this drive may come under the head
abbrev pub may_take_sector : Guest → ℕ → ℕ → List ℕ → Bool
may_take_sector g drive sector bytes =
    completion.is_selected g.devices.disk drive && is_due g.devices (done.Sector sector bytes)

-- the open move: an input if it is due, a sector with the bytes that the input carries
abbrev pub take_from : Guest → Input → Option Guest
take_from g (Rx port byte) = if may_take_key g port then Some (after_rx g port byte) else None
take_from g (Sent port) = if is_due g.devices (done.Sent port) then Some (after_sent g port) else None
take_from g (Sector drive sector number bytes) =
    if may_take_sector g drive sector bytes then Some (after_sector g sector bytes) else None
take_from g (Written number) = if is_due g.devices (done.Written number) then Some (after_written g number) else None

-- ---- what may be asked

-- the sector of this number on the track that a drive's head is at
abbrev pub address_under : Guest → ℕ → ℕ → SectorAddress
address_under g drive sector =
    record { drive = drive; track = (drives.drive_of g.devices.disk drive).track; sector = sector }

-- the number of the last completed write of a sector
abbrev pub last_completed : Guest → SectorAddress → ℕ
last_completed g address = option_map_or (λ index. slice_index g.completed index) (index_of address) 0

-- the Altair that boots here, with these sectors, as a pair sees it
abbrev pub altair_from : Guest → (SectorAddress → List ℕ) → Machine Guest
altair_from boot sectors = record {
  boot = boot;
  boot_sector = sectors;
  window_size = serial.window;
  step = step_from;
  take = take_from;
  count = λ g. g.count;
  is_spent = is_spent;
  keys = λ g port. slice_index g.keys port;
  find = λ g name. operation_at g.operations name;
  due_byte = due_byte;
  selected = λ g. g.devices.disk.selected;
  address = address_under;
  ready = λ g address. completion.is_selected g.devices.disk address.drive && completion.is_sector_due g.devices.disk address.sector;
  busy = λ g address. completion.is_busy_on g.devices.disk address.sector address.drive;
  done = last_completed;
}

-- the Altair of a setup, with these sectors at boot, as a pair sees it
abbrev pub altair : Setup → (SectorAddress → List ℕ) → Machine Guest
altair setup sectors = altair_from (guest_at_boot setup) sectors
