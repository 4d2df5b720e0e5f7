-- What the fields that are read together say, in the order of their bytes.
use Rattle.std.specs.Prelude.{◌≡◌, ℕ, ◌<◌, ◌^◌, ◌==◌, ◌&&◌, Bool, true, if◌then◌else◌, List, map, Option, Some, None}
use Rattle.std.specs.List.{zip}
use Rattle.i8080_words.specs.declared.registers.Interrupts.{Interrupts}
use Rattle.i8080_words.specs.declared.registers.Processor.{Processor}
use Rattle.disk_dcdd.specs.Drive.{Drives}
use Rattle.disk_dcdd.specs.Sector.{place_of}
use Rattle.disk_dcdd.specs.declared.sector.CurrentSector.{CurrentSector}
use Rattle.disk_dcdd.specs.declared.sector.SectorWrite.{SectorWrite}
use Rattle.clone_state.specs.Checkpoint.{FirstPart}
use Rattle.clone_state.specs.Codec.{Codec}
use Rattle.clone_state.specs.FirstPart.{Registers, PortImage, ControllerFields, CurrentImage, DeviceFields, FirstImage, current_of, first_of_image, is_bit, is_current, port, port_01, some_below}
use Rattle.clone_state.specs.Parts.{PartMessage}
use Rattle.clone_state.specs.Possible.{is_controller, is_possible}
use Rattle.clone_state.specs.declared.reading.controller.ControllerFields as controller
use Rattle.clone_state.specs.declared.reading.controller.Outstanding.{Outstanding}
use Rattle.clone_state.specs.declared.reading.first_part.DeviceFields as devices
use Rattle.clone_state.specs.declared.reading.first_part.Fields as fields
use Rattle.clone_state.specs.declared.reading.first_part.FirstPart as part
use Rattle.clone_state.specs.declared.reading.message.PartMessage as message
use Rattle.clone_state.specs.declared.reading.ports.PortImage as image
use Rattle.clone_state.specs.declared.reading.ports.Ports as ports
use Rattle.clone_state.specs.declared.reading.ports.Version.{Version}
use Rattle.clone_state.specs.declared.reading.ports.Version.TheVariants.{One, Two}
use Rattle.clone_state.specs.declared.reading.processor.Registers as registers

-- ---- the processor

abbrev pub registers_of : registers.Registers → Registers
registers_of r = (r.a, (r.flags, (r.b, (r.c, (r.d, (r.e, (r.h, r.l)))))))

abbrev pub processor_with : Registers → ℕ → ℕ → Interrupts → Bool → Processor
processor_with r sp pc interrupts halted = record {
  regs = record {
    pc = pc;
    sp = sp;
    b = r.1.1.0;
    c = r.1.1.1.0;
    d = r.1.1.1.1.0;
    e = r.1.1.1.1.1.0;
    h = r.1.1.1.1.1.1.0;
    l = r.1.1.1.1.1.1.1;
    a = r.0;
    flags = r.1.0;
  };
  interrupts = interrupts;
  halted = halted;
}

-- ---- the ports, in either version

abbrev pub port_in : Version → Codec PortImage
port_in One = port_01
port_in Two = port

abbrev pub port_of : image.PortImage → PortImage
port_of p = (p.port, p.window)

abbrev pub ports_of : ports.Ports → List PortImage
ports_of p = zip p.ports p.windows

-- ---- the controller and its writes

-- the sector under the head, from the bytes before those of the sector
abbrev pub current_fields : ℕ → ℕ → ℕ → ℕ → ℕ → List ℕ → CurrentImage
current_fields present sector shown read filled bytes =
    (present == 1, (sector, (shown == 1, (read, (some_below filled, bytes)))))

-- if they say one, or that there is none
abbrev pub current_in : ℕ → ℕ → ℕ → ℕ → ℕ → List ℕ → Option (Option CurrentSector)
current_in present sector shown read filled bytes =
    let r = current_fields present sector shown read filled bytes in
    if is_bit present && is_bit shown && is_current r then Some (current_of r) else None

abbrev pub writes_in : List Outstanding → List SectorWrite
writes_in writes = map (λ (w : Outstanding). w.write) writes

abbrev pub controller_of : controller.ControllerFields → ControllerFields
controller_of c = (c.issued, (c.selected, (c.interrupts, (c.drives, (c.current, writes_in c.writes.items)))))

-- the controller of this many drives with these fields
abbrev pub controller_with : ℕ → ControllerFields → Drives
controller_with attached c = record {
  attached = attached;
  selected = c.1.0;
  drives = c.1.1.1.0;
  interrupts = c.1.1.0;
  current = c.1.1.1.1.0;
  outstanding = map place_of c.1.1.1.1.1;
  issued = c.0;
}

-- if one can have them
abbrev pub controller_in : ℕ → ControllerFields → Option Drives
controller_in attached c = if is_controller (controller_with attached c) then Some (controller_with attached c) else None

-- ---- all of it

abbrev pub devices_of : devices.DeviceFields → DeviceFields
devices_of d = (d.keys, (d.issued, (ports_of d.ports, controller_of d.controller)))

abbrev pub fields_of : fields.Fields → FirstImage
fields_of f = (f.attached, (f.levels, (f.sense, (f.count, (f.processor, devices_of f.devices)))))

abbrev pub first_of : part.FirstPart → FirstPart
first_of f = record {
  processor = f.processor;
  devices = f.devices;
  unaccepted = f.unaccepted;
  issued = f.issued;
  writes = writes_in f.writes.items;
  count = f.count;
  keys = f.keys;
  levels = f.levels;
  sense = f.sense;
}

-- what a first part that is read says: a board with this many drives can have it
pub record IsOfBoard (drives : ℕ) (f : FirstPart) : Type 0 where
  pub attached : f.devices.disk.attached ≡ drives
  pub possible : is_possible f ≡ true
  pub count : f.count < 2 ^ 62
  pub writes : map place_of f.writes ≡ f.devices.disk.outstanding

-- the part with these fields, if a board can have it
abbrev pub if_possible : FirstPart → Option FirstPart
if_possible f = if is_possible f then Some f else None

abbrev pub possible_in : FirstImage → Option FirstPart
possible_in r = if_possible (first_of_image r)

-- ---- a part in a message

abbrev pub message_is : message.PartMessage → PartMessage
message_is m = record { generation = m.generation; index = m.index; payload = m.payload.now }
