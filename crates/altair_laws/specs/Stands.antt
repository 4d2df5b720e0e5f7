-- What holds of an Altair after any moves from boot: its numbers, its controller, and its outstanding writes.
use Rattle.std.specs.Prelude.{◌≡◌, ℕ, ◌+◌, ◌*◌, ◌≤◌, ◌<◌, Some, List, [], ◌∷◌, length, slice_index}
use Rattle.serial_2sio.specs.Port as serial
use Rattle.disk_dcdd.specs.Controller.{IsDrives}
use Rattle.disk_dcdd.specs.Sector.{place_of}
use Rattle.disk_dcdd.specs.declared.address.TheConstants.{DRIVE_SECTORS}
use Rattle.disk_dcdd.specs.declared.sector.TheConstants.{SECTOR_BYTES}
use Rattle.disk_dcdd.specs.declared.sector.Place.{Place}
use Rattle.disk_dcdd.specs.declared.sector.SectorWrite.{SectorWrite}
use Rattle.event_callbacks.specs.Completions.{port_of}
use Rattle.event_callbacks.specs.Operations.{operation_at}
use Rattle.event_callbacks.specs.declared.devices.TheConstants.{PORTS}
use Rattle.event_callbacks.specs.declared.operations.OpId.TheVariants as id
use Rattle.event_callbacks.specs.declared.operations.Operation.{Operation}
use Rattle.event_callbacks.specs.declared.operations.Operation.TheVariants as operation
use Rattle.guest_parts.specs.Guest.{Guest}
use Rattle.guest_lockstep.specs.Machine.{Move, Do, Take}
use Rattle.guest_lockstep.specs.declared.input.Input.{Input}
use Rattle.guest_lockstep.specs.declared.input.Input.TheVariants.{Rx, Sent, Sector, Written}
use Rattle.guest_board.specs.declared.setup.Setup.{Setup}
use Rattle.guest_lockstep.specs.Reach.{operations}
use Rattle.pair_protocol.specs.Lawful.{top, Among}

-- a sector that comes under the head has all its bytes
abbrev pub IsWhole : Input → Type 0
IsWhole (Rx port byte) = Unit {0}
IsWhole (Sent port) = Unit {0}
IsWhole (Sector drive sector number bytes) = length bytes ≡ SECTOR_BYTES
IsWhole (Written number) = Unit {0}

-- the same, for each sector along the moves
abbrev pub AreWhole : List Move → Type 0
AreWhole [] = Unit {0}
AreWhole (Do gives ∷ moves) = AreWhole moves
AreWhole (Take i ∷ moves) = IsWhole i × AreWhole moves

-- no number has passed the limit
pub record IsWithin (g : Guest) : Type 0 where
  pub count : g.count ≤ top
  pub issued : (port : ℕ) → slice_index g.issued port ≤ top
  pub writes : g.devices.disk.issued ≤ top
  pub keys : (port : ℕ) → slice_index g.keys port ≤ top

-- the bytes of a port that are not accepted were sent, and fit in the window
pub record AreUnaccepted (g : Guest) (port : ℕ) : Type 0 where
  pub sent : (port_of g.devices port).unaccepted ≤ slice_index g.issued port
  pub few : (port_of g.devices port).unaccepted ≤ serial.window

-- the byte of this number is among the last ones sent to a port, as many as are not accepted
pub record IsLast (g : Guest) (port number : ℕ) : Type 0 where
  pub first : slice_index g.issued port < number + (port_of g.devices port).unaccepted
  pub last : number ≤ slice_index g.issued port

-- the outstanding bytes of a port are these
pub record AreBytes (g : Guest) (port : ℕ) : Type 0 where
  pub last : (number : ℕ) (x : Operation) → operation_at g.operations (id.Byte port number) ≡ Some x
      → IsLast g port number
  pub pending : (number : ℕ) → IsLast g port number
      → (x : Operation) × (operation_at g.operations (id.Byte port number) ≡ Some x)

-- the write of this number is outstanding
abbrev pub IsPending : Guest → SectorWrite → Type 0
IsPending g write = operation_at g.operations (id.Write write.number) ≡ Some (operation.Write write)

-- the outstanding writes are those that the controller waits for
pub record AreWrites (g : Guest) : Type 0 where
  pub placed : (write : SectorWrite) → IsPending g write → Among (place_of write) g.devices.disk.outstanding
  pub pending : (place : Place) → Among place g.devices.disk.outstanding
      → (write : SectorWrite) × IsPending g write × (place_of write ≡ place)

-- the tables have a place for each port and each sector, and the number of drives stays
pub record HasSizes (setup : Setup) (g : Guest) : Type 0 where
  pub ports : length g.devices.ports ≡ PORTS
  pub issued : length g.issued ≡ PORTS
  pub keys : length g.keys ≡ PORTS
  pub attached : g.devices.disk.attached ≡ setup.drives
  pub completed : length g.completed ≡ setup.drives * DRIVE_SECTORS

-- each write that was given has all its bytes
abbrev pub AreWholeWrites : List Move → Type 0
AreWholeWrites moves =
    (write : SectorWrite) → Among (operation.Write write) (operations moves) → length write.bytes ≡ SECTOR_BYTES

-- what holds of an Altair after these moves from boot
pub record AltairStands (setup : Setup) (moves : List Move) (g : Guest) : Type 0 where
  pub sizes : HasSizes setup g
  pub within : IsWithin g
  pub unaccepted : (port : ℕ) → AreUnaccepted g port
  pub bytes : (port : ℕ) → AreBytes g port
  -- if each sector along the moves had all its bytes, the controller is well-formed, and each write has all its bytes
  pub drives : AreWhole moves → IsDrives g.devices.disk
  pub whole : AreWhole moves → AreWholeWrites moves
  pub completed : (index : ℕ) → slice_index g.completed index ≤ g.devices.disk.issued
  pub writes : AreWrites g
