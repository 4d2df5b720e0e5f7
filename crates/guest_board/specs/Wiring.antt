-- What the processor of a board is wired to, with the version of each page of its memory.
use Rattle.std.specs.Prelude.{ℕ, ◌<◌, List}
use Rattle.i8080_words.specs.Effects.{Access}
use Rattle.i8080_words.specs.Effects.Access.{Write, Input, Output}
use Rattle.event_callbacks.specs.declared.devices.TheConstants.{PORTS}
use Rattle.guest_memory.specs.Pages.{page_of, raised}
use Rattle.guest_board.specs.Ports.{Wired, memory_byte, port_byte, after_access}
use Rattle.guest_board.specs.declared.ports.Device.{Device}
use Rattle.guest_board.specs.declared.ports.Device.TheVariants.{SerialControl, SerialData, DiskSelect, DiskControl, DiskData, SenseSwitches, Nothing}

-- what the guest can see of it, and with that how often each page of memory was written
pub record Versioned : Type 0 where
  pub wired : Wired
  pub versions : List ℕ

-- an access writes one page or none
abbrev pub versions_after : Access → List ℕ → List ℕ
versions_after (Write address byte) versions = raised versions (page_of address)
versions_after (Input number) versions = versions
versions_after (Output number byte) versions = versions

-- an access of the processor
abbrev pub versioned_after : Access → Versioned → Versioned
versioned_after access s =
    record { wired = after_access access s.wired; versions = versions_after access s.versions }

-- the byte at an address, and the byte that a port number gives
abbrev pub byte_behind : Versioned → ℕ → ℕ
byte_behind s = memory_byte s.wired

abbrev pub input_behind : Versioned → ℕ → ℕ
input_behind s = port_byte s.wired

-- the serial port of a device exists
abbrev pub IsThere : Device → Type 0
IsThere (SerialControl port) = port < PORTS
IsThere (SerialData port) = port < PORTS
IsThere DiskSelect = Unit {0}
IsThere DiskControl = Unit {0}
IsThere DiskData = Unit {0}
IsThere SenseSwitches = Unit {0}
IsThere Nothing = Unit {0}
