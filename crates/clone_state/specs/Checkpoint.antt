-- What an image says of a machine, field by field, and the machine that it makes.
use Rattle.std.specs.Prelude.{ℕ, suc, zero, ◌+◌, Option, Some, List, [], ◌∷◌, ◌++◌, map, take, replicate}
use Rattle.std.specs.FinMap as finite
use Rattle.i8080_words.specs.declared.registers.Processor.{Processor}
use Rattle.serial_2sio.specs.Port as serial
use Rattle.disk_dcdd.specs.declared.sector.Place.{Place}
use Rattle.disk_dcdd.specs.declared.sector.SectorWrite.{SectorWrite}
use Rattle.event_callbacks.specs.Completions.{port_of}
use Rattle.event_callbacks.specs.Operations.{Operations, operation_at}
use Rattle.event_callbacks.specs.declared.devices.Devices.{Devices}
use Rattle.event_callbacks.specs.declared.operations.OpId.TheVariants as id
use Rattle.event_callbacks.specs.declared.operations.Operation.{Operation}
use Rattle.event_callbacks.specs.declared.operations.Operation.TheVariants.{Byte, Write}
use Rattle.guest_parts.specs.Guest.{Guest}
use Rattle.guest_parts.specs.Parts.{with_each, bytes_of, oldest_of, writes_of}
use Rattle.guest_parts.specs.declared.parts.BoardParts.{BoardParts}

-- what the first part says: all but memory and the last completed writes. Of each port there are the 16 places of its
-- window, oldest byte first and 00 if unused; the outstanding writes are in order of number
pub record FirstPart : Type 0 where
  pub processor : Processor
  pub devices : Devices
  pub unaccepted : List (List ℕ)
  pub issued : List ℕ
  pub writes : List SectorWrite
  pub count : ℕ
  pub keys : List ℕ
  pub levels : List ℕ
  pub sense : ℕ

-- what all parts say
pub record Checkpoint : Type 0 where
  pub first : FirstPart
  pub memory : List ℕ
  pub completed : List ℕ

-- ---- of a machine

-- the byte of an operation
abbrev pub byte_of : Option Operation → ℕ
byte_of (Some (Byte port number byte)) = byte
byte_of _ = 0

-- this many bytes of a port, numbered from this number on
abbrev pub bytes_numbered : Operations → ℕ → ℕ → ℕ → List ℕ
bytes_numbered operations port number zero = []
bytes_numbered operations port number (suc n) =
    byte_of (operation_at operations (id.Byte port number)) ∷ bytes_numbered operations port (number + 1) n

-- the bytes of a port that are not accepted, oldest first
abbrev pub window_of : Guest → ℕ → List ℕ
window_of g port =
    bytes_numbered g.operations port (oldest_of g.devices g.issued port) (port_of g.devices port).unaccepted

-- the places of a window: these bytes and then 00
unfoldable pub padded : List ℕ → List ℕ
padded bytes = take serial.window (bytes ++ replicate serial.window 0)

-- the write that is outstanding and goes to a place
abbrev pub write_at : Place → Option Operation → SectorWrite
write_at place (Some (Write write)) = write
write_at place _ =
    record { number = place.number; drive = place.drive; track = place.track; sector = place.sector; bytes = [] }

abbrev pub writes_at : Operations → List Place → List SectorWrite
writes_at operations places = map (λ place. write_at place (operation_at operations (id.Write place.number))) places

-- what the image of a machine says
abbrev pub checkpoint_of : Guest → Checkpoint
checkpoint_of g = record {
  first = record {
    processor = g.processor;
    devices = g.devices;
    unaccepted = padded (window_of g 0) ∷ padded (window_of g 1) ∷ [];
    issued = g.issued;
    writes = writes_at g.operations g.devices.disk.outstanding;
    count = g.count;
    keys = g.keys;
    levels = g.levels;
    sense = g.sense;
  };
  memory = g.memory;
  completed = g.completed;
}

-- ---- and back

-- exactly these operations are outstanding
abbrev pub operations_in : FirstPart → Operations
operations_in f =
    with_each
    (with_each (with_each finite.empty (bytes_of f.devices f.issued f.unaccepted 0))
    (bytes_of f.devices f.issued f.unaccepted 1))
    (writes_of f.writes)

-- the machine that an image makes
abbrev pub guest_of : Checkpoint → Guest
guest_of c = record {
  processor = c.first.processor;
  memory = c.memory;
  devices = c.first.devices;
  operations = operations_in c.first;
  issued = c.first.issued;
  completed = c.completed;
  count = c.first.count;
  keys = c.first.keys;
  levels = c.first.levels;
  sense = c.first.sense;
}

-- what the parts of a board say
abbrev pub checkpoint_in_parts : BoardParts → Checkpoint
checkpoint_in_parts p = record {
  first = record {
    processor = p.processor;
    devices = p.devices;
    unaccepted = p.unaccepted;
    issued = p.issued;
    writes = p.writes.items;
    count = p.count;
    keys = p.keys;
    levels = p.levels;
    sense = p.sense;
  };
  memory = p.memory.items;
  completed = p.completed.items;
}
