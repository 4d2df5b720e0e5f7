-- What the processor is wired to: memory, and by port number the serial ports, the drives and the sense switches.
use Rattle.std.specs.Prelude.{ℕ, ◌+◌, ◌==◌, nat_lt, if◌then◌else◌, Option, Some, None, is_none, List, slice_index, slice_set}
use Rattle.std.specs.Option.{option_map_or}
use Rattle.i8080_words.specs.Effects.{Access}
use Rattle.i8080_words.specs.Effects.Access.{Write, Input, Output}
use Rattle.serial_2sio.specs.Port as serial
use Rattle.disk_dcdd.specs.Drive as drives
use Rattle.i8080_words.specs.declared.limits.TheConstants.{GREATEST_NUMBER}
use Rattle.disk_dcdd.specs.declared.sector.SectorWrite.{SectorWrite}
use Rattle.event_callbacks.specs.Completions.{port_of}
use Rattle.event_callbacks.specs.declared.devices.Devices.{Devices}
use Rattle.event_callbacks.specs.declared.operations.Operation.{Operation}
use Rattle.event_callbacks.specs.declared.operations.Operation.TheVariants as operation
use Rattle.guest_board.specs.declared.ports.Device.{Device}
use Rattle.guest_board.specs.declared.ports.Device.TheVariants.{SerialControl, SerialData, DiskSelect, DiskControl, DiskData, SenseSwitches, Nothing}

-- which device is at a port number
abbrev pub device_at : ℕ → Device
device_at number =
    if number == 0x10 then SerialControl 0
    else if number == 0x11 then SerialData 0
    else if number == 0x12 then SerialControl 1
    else if number == 0x13 then SerialData 1
    else if number == 0x08 then DiskSelect
    else if number == 0x09 then DiskControl
    else if number == 0x0A then DiskData
    else if number == 0xFF then SenseSwitches
    else Nothing

-- what the processor is wired to while one step is executed: memory, the devices, how many bytes each port was sent,
-- the sense switches, and the operation that the step has given
pub record Wired : Type 0 where
  pub memory : List ℕ
  pub devices : Devices
  pub issued : List ℕ
  pub sense : ℕ
  pub given : Option Operation

-- the byte at an address
abbrev pub memory_byte : Wired → ℕ → ℕ
memory_byte w address = slice_index w.memory address

-- the devices with another controller, or another serial port
abbrev pub with_disk : Devices → drives.Drives → Devices
with_disk d disk = record d { disk = disk }

abbrev pub with_port : Devices → ℕ → serial.Port → Devices
with_port d number port = record d { ports = slice_set d.ports number port }

-- IN: the byte that a device gives; if there is none, the bus floats high
abbrev pub byte_from : Wired → Device → ℕ
byte_from w (SerialControl port) = serial.status_of (port_of w.devices port)
byte_from w (SerialData port) = serial.data_in_answer (port_of w.devices port)
byte_from w DiskSelect = drives.status_of w.devices.disk
byte_from w DiskControl = drives.position_of w.devices.disk
byte_from w DiskData = drives.byte_of w.devices.disk
byte_from w SenseSwitches = w.sense
byte_from w Nothing = 0xFF

-- IN: the devices after it
abbrev pub devices_after_in : Devices → Device → Devices
devices_after_in d (SerialControl port) = d
devices_after_in d (SerialData port) = with_port d port (serial.after_data_in (port_of d port))
devices_after_in d DiskSelect = d
devices_after_in d DiskControl = with_disk d (drives.after_position d.disk)
devices_after_in d DiskData = with_disk d (drives.after_read d.disk)
devices_after_in d SenseSwitches = d
devices_after_in d Nothing = d

-- OUT of a byte that the port sends: it has the next number of its port
abbrev pub after_byte : Wired → ℕ → ℕ → Wired
after_byte w port byte =
    let number = slice_index w.issued port + 1 in
    record w {
      devices = with_port w.devices port (serial.after_data_out (port_of w.devices port));
      issued = slice_set w.issued port number;
      given = Some (operation.Byte port number byte);
    }

-- OUT to a serial port: it sends the byte if it is ready and its numbers are not spent; otherwise the byte is lost
abbrev pub after_serial_data : Wired → ℕ → ℕ → Wired
after_serial_data w port byte =
    if nat_lt (slice_index w.issued port) GREATEST_NUMBER
    then option_map_or (after_byte w port) (serial.data_out_answer (port_of w.devices port) byte) w
    else w

-- OUT to the drive's data: byte 137 gives the write, if the numbers of writes are not spent
abbrev pub write_given : Option SectorWrite → Option Operation
write_given None = None
write_given (Some write) = Some (operation.Write write)

abbrev pub after_disk_data : Wired → ℕ → Wired
after_disk_data w byte =
    if nat_lt w.devices.disk.issued GREATEST_NUMBER
    then record w {
      devices = with_disk w.devices (drives.after_data w.devices.disk byte);
      given = write_given (drives.issued_by w.devices.disk byte);
    }
    else w

-- OUT: what it leaves
abbrev pub after_out : Wired → Device → ℕ → Wired
after_out w (SerialControl port) byte =
    record w { devices = with_port w.devices port (serial.after_control (port_of w.devices port) byte) }
after_out w (SerialData port) byte = after_serial_data w port byte
after_out w DiskSelect byte = record w { devices = with_disk w.devices (drives.after_select w.devices.disk byte) }
after_out w DiskControl byte = record w { devices = with_disk w.devices (drives.after_command w.devices.disk byte) }
after_out w DiskData byte = after_disk_data w byte
after_out w SenseSwitches byte = w
after_out w Nothing byte = w

-- IN of a port number
abbrev pub port_byte : Wired → ℕ → ℕ
port_byte w number = byte_from w (device_at number)

-- an access of the processor; a step gives at most one operation, since no instruction writes to two ports
abbrev pub after_access : Access → Wired → Wired
after_access (Write address byte) w = record w { memory = slice_set w.memory address byte }
after_access (Input number) w = record w { devices = devices_after_in w.devices (device_at number) }
after_access (Output number byte) w = if is_none w.given then after_out w (device_at number) byte else w
