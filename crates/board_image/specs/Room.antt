-- Which ports of a guest have room for a key.
use Rattle.std.specs.Prelude.{◌≡◌, ℕ, Bool, true, false}
use Rattle.event_callbacks.specs.Completions.{port_of}
use Rattle.guest_parts.specs.Guest.{Guest}
use Rattle.serial_2sio.specs.Port.{Port, after_receive, word_of}
use Rattle.serial_2sio.specs.declared.acia.Receiver.{Receiver}
use Rattle.serial_2sio.specs.declared.acia.Receiver.TheVariants.{Empty, Full, FullLost, Over}

-- no byte waits to be read
abbrev pub is_empty : Receiver → Bool
is_empty Empty = true
is_empty Full = false
is_empty FullLost = false
is_empty Over = false

abbrev pub has_room : Guest → ℕ → Bool
has_room g port = is_empty (port_of g.devices port).receiver

-- a key that comes where there is room waits to be read, and where there is none what waited still does
pub record IsKept (p : Port) (byte : ℕ) : Type 0 where
  pub taken : is_empty p.receiver ≡ true →
      ((after_receive p byte).receiver ≡ Full) × ((after_receive p byte).receive_data ≡ word_of p.control byte)
  pub lost : is_empty p.receiver ≡ false → (after_receive p byte).receive_data ≡ p.receive_data

abbrev pub KeysAreKept : Type 0
KeysAreKept = (p : Port) (byte : ℕ) → IsKept p byte
