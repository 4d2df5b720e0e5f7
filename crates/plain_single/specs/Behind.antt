-- What the processor of the single machine is wired to, and what an instruction's accesses leave of it.
use Rattle.std.specs.Prelude.{ℕ, ◌==◌, ◌||◌, Bool, nat_le, if◌then◌else◌, Option, Some, None, List, [], ◌∷◌, ◌++◌, slice_index}
use Rattle.disk_dcdd.specs.Drive.{Drives, at_boot}
use Rattle.i8080_words.specs.declared.limits.TheConstants.{GREATEST_NUMBER}
use Rattle.disk_dcdd.specs.declared.sector.SectorWrite.{SectorWrite}
use Rattle.event_callbacks.specs.Completions.{port_of}
use Rattle.event_callbacks.specs.declared.devices.Devices.{Devices}
use Rattle.event_callbacks.specs.declared.operations.Operation.{Operation}
use Rattle.event_callbacks.specs.declared.operations.Operation.TheVariants.{Byte, Write}
use Rattle.guest_board.specs.Ports.{Wired}
use Rattle.guest_board.specs.declared.setup.Setup.{Setup}
use Rattle.plain_single.specs.Drives.{drives_of}
use Rattle.plain_single.specs.Serial.{Line, line_of, line_at_boot}
use Rattle.plain_single.specs.declared.wires.Wires.{Wires}

-- memory, both serial ports, the drives, the writes that the drives issued, and the sense switches
pub record Behind : Type 0 where
  pub memory : List ℕ
  pub first : Line
  pub second : Line
  pub disk : Drives
  pub writes : List SectorWrite
  pub sense : ℕ

-- what the fields mean
abbrev pub behind_of : Wires → Behind
behind_of w = record {
  memory = w.memory.bytes.items;
  first = line_of w.first;
  second = line_of w.second;
  disk = drives_of w.drives;
  writes = w.drives.writes.items;
  sense = w.sense;
}

-- the same for a setup at boot
abbrev pub behind_at_boot : Setup → Behind
behind_at_boot setup = record {
  memory = setup.memory.items;
  first = line_at_boot;
  second = line_at_boot;
  disk = at_boot setup.drives;
  writes = [];
  sense = setup.sense;
}

-- the devices of the board
abbrev pub devices_of : Behind → Devices
devices_of b = record { ports = b.first.port ∷ b.second.port ∷ []; disk = b.disk }

-- what the processor is wired to
abbrev pub wired_of : Behind → Wired
wired_of b = record {
  memory = b.memory;
  devices = devices_of b;
  issued = b.first.issued ∷ b.second.issued ∷ [];
  sense = b.sense;
  given = None;
}

-- the output of a port after an operation
abbrev pub with_byte : ℕ → List ℕ → Option Operation → List ℕ
with_byte port output None = output
with_byte port output (Some (Byte to number byte)) = if port == to then output ++ byte ∷ [] else output
with_byte port output (Some (Write write)) = output

-- the writes after an operation
abbrev pub with_write : List SectorWrite → Option Operation → List SectorWrite
with_write writes None = writes
with_write writes (Some (Byte to number byte)) = writes
with_write writes (Some (Write write)) = writes ++ write ∷ []

-- a port after accesses that left the wiring in this state
abbrev pub line_after : ℕ → Line → Wired → Line
line_after port l w = record {
  port = port_of w.devices port;
  output = with_byte port l.output w.given;
  issued = slice_index w.issued port;
  keys = l.keys;
}

-- all of it after such accesses
abbrev pub after_wired : Behind → Wired → Behind
after_wired b w = record {
  memory = w.memory;
  first = line_after 0 b.first w;
  second = line_after 1 b.second w;
  disk = w.devices.disk;
  writes = with_write b.writes w.given;
  sense = b.sense;
}

-- the number of a port's bytes, or of writes, is at its greatest
abbrev pub is_full : Behind → Bool
is_full b =
    nat_le GREATEST_NUMBER b.first.issued
    || nat_le GREATEST_NUMBER b.second.issued
    || nat_le GREATEST_NUMBER b.disk.issued
