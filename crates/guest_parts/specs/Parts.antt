-- What a board is rebuilt from: the guest that the parts describe, and whether a board can be in that state.
use Rattle.std.specs.Prelude.{◌≡◌, ℕ, ◌+◌, ◌-◌, ◌*◌, Bool, true, false, not, ◌==◌, ◌<◌, nat_lt, nat_le, if◌then◌else◌, ◌&&◌, All, AllPairs, Some, List, [], ◌∷◌, length, map, take, slice_index, slice_index_or}
use Rattle.std.specs.List.{list_all}
use Rattle.std.specs.FinMap as finite
use Rattle.i8080_words.specs.declared.refusal.Fault.{Fault}
use Rattle.i8080_words.specs.declared.refusal.Fault.TheVariants.{OutOfMemory, Malformed}
use Rattle.disk_dcdd.specs.Completion.{is_outstanding}
use Rattle.disk_dcdd.specs.Drive.{Drives}
use Rattle.disk_dcdd.specs.Sector.{place_of}
use Rattle.disk_dcdd.specs.declared.address.TheConstants.{DRIVE_SECTORS}
use Rattle.i8080_words.specs.declared.limits.TheConstants.{GREATEST_NUMBER}
use Rattle.disk_dcdd.specs.declared.sector.Place.{Place}
use Rattle.disk_dcdd.specs.declared.sector.SectorWrite.{SectorWrite}
use Rattle.event_callbacks.specs.Completions.{port_of}
use Rattle.event_callbacks.specs.Operations.{Operations, operation_at, with_operation}
use Rattle.event_callbacks.specs.declared.devices.Devices.{Devices}
use Rattle.event_callbacks.specs.declared.operations.OpId.TheVariants as id
use Rattle.event_callbacks.specs.declared.operations.Operation.{Operation}
use Rattle.event_callbacks.specs.declared.operations.Operation.TheVariants as operation
use Rattle.guest_parts.specs.Guest.{Guest}
use Rattle.guest_parts.specs.declared.parts.BoardParts.{BoardParts}

-- ---- the outstanding operations

-- operations are added one after another
abbrev pub with_each : Operations → List Operation → Operations
with_each operations [] = operations
with_each operations (op ∷ ops) = with_each (with_operation operations op) ops

-- bytes of a port, numbered from this number on
abbrev pub bytes_from : ℕ → ℕ → List ℕ → List Operation
bytes_from port number [] = []
bytes_from port number (byte ∷ bytes) = operation.Byte port number byte ∷ bytes_from port (number + 1) bytes

-- the number of the oldest byte of a port that is on its way: the newest is the last that was issued
abbrev pub oldest_of : Devices → List ℕ → ℕ → ℕ
oldest_of d issued port = slice_index issued port + 1 - (port_of d port).unaccepted

-- the bytes of a port that are on their way
abbrev pub bytes_of : Devices → List ℕ → List (List ℕ) → ℕ → List Operation
bytes_of d issued unaccepted port =
    bytes_from port (oldest_of d issued port) (take (port_of d port).unaccepted (slice_index_or unaccepted port []))

-- the writes that are outstanding
abbrev pub writes_of : List SectorWrite → List Operation
writes_of writes = map operation.Write writes

-- the writes are in order of number
abbrev pub Rise : List SectorWrite → Type 0
Rise writes = AllPairs (λ earlier later. earlier.number < later.number) writes

-- exactly these are outstanding
abbrev pub operations_of : BoardParts → Operations
operations_of p =
    with_each
    (with_each (with_each finite.empty (bytes_of p.devices p.issued p.unaccepted 0))
    (bytes_of p.devices p.issued p.unaccepted 1))
    (writes_of p.writes.items)

-- ---- the guest

-- the guest that the parts describe
abbrev pub guest_of_parts : BoardParts → Guest
guest_of_parts p = record {
  processor = p.processor;
  memory = p.memory.items;
  devices = p.devices;
  operations = operations_of p;
  issued = p.issued;
  completed = p.completed.items;
  count = p.count;
  keys = p.keys;
  levels = p.levels;
  sense = p.sense;
}

-- ---- whether a board can be in that state

-- a port has no more bytes on their way than were issued, and its numbers are in range
abbrev pub port_stands : Devices → List ℕ → List ℕ → ℕ → Bool
port_stands d issued keys port =
    nat_le (port_of d port).unaccepted (slice_index issued port)
    && nat_le (slice_index issued port) GREATEST_NUMBER
    && nat_le (slice_index keys port) GREATEST_NUMBER

-- a write has the number and the place of one that the controller waits for
abbrev pub goes_to : SectorWrite → Place → Bool
goes_to w place =
    w.number == place.number && w.drive == place.drive && w.track == place.track && w.sector == place.sector

-- the writes are those that the controller waits for, one by one
abbrev pub go_to : List SectorWrite → List Place → Bool
go_to [] [] = true
go_to [] (place ∷ places) = false
go_to (w ∷ ws) [] = false
go_to (w ∷ ws) (place ∷ places) = goes_to w place && go_to ws places

-- a last completed write was issued, and is not outstanding
abbrev pub may_be_completed : Drives → ℕ → Bool
may_be_completed disk number = nat_le number disk.issued && not (is_outstanding disk number)

-- there is a last completed write for each sector of the attached drives
abbrev pub are_completed : Drives → List ℕ → Bool
are_completed disk completed =
    length completed == disk.attached * DRIVE_SECTORS && list_all (may_be_completed disk) completed

-- a restart instruction has a level below 8
abbrev pub are_levels : List ℕ → Bool
are_levels levels = list_all (λ level. nat_lt level 8) levels

-- a board can be in the state that the parts describe
abbrev pub stands : BoardParts → Bool
stands p =
    port_stands p.devices p.issued p.keys 0
    && port_stands p.devices p.issued p.keys 1
    && nat_le p.count GREATEST_NUMBER
    && are_levels p.levels
    && go_to p.writes.items p.devices.disk.outstanding
    && are_completed p.devices.disk p.completed.items

-- why no board is made from the parts: none can be in that state, or there is no memory for it
abbrev pub refused_as : BoardParts → Fault
refused_as p = if stands p then OutOfMemory else Malformed

-- ---- what a guest shows

-- these operations have each byte that a port has on its way, as the parts have it
abbrev pub HaveBytes : Operations → BoardParts → ℕ → Type 0
HaveBytes operations p port =
    (k : ℕ) → k < (port_of p.devices port).unaccepted
    → operation_at operations (id.Byte port (oldest_of p.devices p.issued port + k))
    ≡ Some (operation.Byte port (oldest_of p.devices p.issued port + k)
    (slice_index (slice_index_or p.unaccepted port []) k))

-- these operations have each write, as the parts have it
abbrev pub HaveWrites : Operations → List SectorWrite → Type 0
HaveWrites operations writes = All (λ w. operation_at operations (id.Write w.number) ≡ Some (operation.Write w)) writes

-- the parts are what the guest shows: its fields, the bytes that its ports have on their way, and the writes that its
-- controller waits for
pub record Shows (g : Guest) (p : BoardParts) : Type 0 where
  pub processor : p.processor ≡ g.processor
  pub memory : p.memory.items ≡ g.memory
  pub devices : p.devices ≡ g.devices
  pub first : HaveBytes g.operations p 0
  pub second : HaveBytes g.operations p 1
  pub writes : HaveWrites g.operations p.writes.items
  pub places : map place_of p.writes.items ≡ p.devices.disk.outstanding
  pub issued : p.issued ≡ g.issued
  pub completed : p.completed.items ≡ g.completed
  pub count : p.count ≡ g.count
  pub keys : p.keys ≡ g.keys
  pub levels : p.levels ≡ g.levels
  pub sense : p.sense ≡ g.sense
