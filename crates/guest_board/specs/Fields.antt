-- What the fields of a `Wiring` and of a `Board` mean.
use Rattle.std.specs.Prelude.{ℕ, List}
use Rattle.i8080_words.specs.declared.registers.Processor.{Processor}
use Rattle.event_callbacks.specs.Operations.{Outstanding}
use Rattle.guest_board.specs.Ports.{Wired}
use Rattle.guest_board.specs.Wiring.{Versioned}
use Rattle.guest_parts.specs.Guest.{Guest}
use Rattle.guest_board.specs.declared.wiring.Wiring.{Wiring}

-- what the guest can see of what its processor is wired to
abbrev pub wired_of : Wiring → Wired
wired_of w = record { memory = w.memory.bytes; devices = w.devices; issued = w.issued; sense = w.sense; given = w.given }

-- all of it
abbrev pub versioned_of : Wiring → Versioned
versioned_of w = record { wired = wired_of w; versions = w.memory.versions }

-- the guest with these fields: its processor and what that is wired to, the outstanding operations, the last completed
-- write of each sector, how many steps were executed, how many keys were taken, and the interrupt levels
abbrev pub guest_of : Processor → Wiring → Outstanding → List ℕ → ℕ → List ℕ → List ℕ → Guest
guest_of processor w pending completed count keys levels = record {
  processor = processor;
  memory = w.memory.bytes;
  devices = w.devices;
  operations = pending.operations;
  issued = w.issued;
  completed = completed;
  count = count;
  keys = keys;
  levels = levels;
  sense = w.sense;
}
