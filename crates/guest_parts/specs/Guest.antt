-- The guest at one moment.
use Rattle.std.specs.Prelude.{ℕ, List}
use Rattle.i8080_words.specs.declared.registers.Processor.{Processor}
use Rattle.event_callbacks.specs.Operations.{Operations}
use Rattle.event_callbacks.specs.declared.devices.Devices.{Devices}

-- the guest at one moment: the processor, memory, the devices, the outstanding operations, how many bytes were sent to
-- each port, the last completed write of each sector, how many steps were executed, how many keys of each port were
-- taken, the interrupt level of each device, and the sense switches
pub record Guest : Type 0 where
  pub processor : Processor
  pub memory : List ℕ
  pub devices : Devices
  pub operations : Operations
  pub issued : List ℕ
  pub completed : List ℕ
  pub count : ℕ
  pub keys : List ℕ
  pub levels : List ℕ
  pub sense : ℕ
