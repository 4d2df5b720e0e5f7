-- What the proofs cite of the definitions here, and of the crates below, passed on together.
pub use Rattle.arbiter_core.specs.Winners.{IsAnswer, after_asking, winner_of}
pub use Rattle.arbiter_core.specs.declared.arbiter.Asking.{Asking}
pub use Rattle.arbiter_core.specs.declared.arbiter.Won.{Won}
pub use Rattle.disk_dcdd.specs.Address.{address_of, has_sector}
pub use Rattle.disk_dcdd.specs.declared.address.SectorAddress.{SectorAddress}
pub use Rattle.disk_dcdd.specs.declared.sector.SectorWrite.{SectorWrite}
pub use Rattle.event_callbacks.specs.declared.devices.TheConstants.{PORTS}
pub use Rattle.guest_lockstep.specs.Machine.{Machine}
pub use Rattle.host_law.specs.Frame.{Act, AsksArbiter, AsksSector, Carries, Frame, HasLost, HasWon, answering, quiet, sending, sent, taken, taking}
pub use Rattle.host_law.specs.Outside.{Outside, OutsideRun, OutsideStep, at_first, with_arrived, with_first, with_keys, with_screen, with_typed}
pub use Rattle.i8080_words.specs.declared.refusal.Fault.{Fault}
pub use Rattle.i8080_words.specs.declared.refusal.Fault.TheVariants.{Lost, OutOfMemory, Unknown}
pub use Rattle.pair_protocol.specs.SharedDevices.{AreWinners, IsDisk}
pub use Rattle.pair_protocol.specs.World.{Arrival, Terminal, Winner, accepted_after, accepted_in, no_terminal, sector_record, terminal_in, winner_in}
pub use Rattle.shared_disk.specs.Arrivals.{after_put, read_at, read_of}
pub use Rattle.shared_disk.specs.Records.{IsThere, record_at}
pub use Rattle.shared_disk.specs.declared.store.Record.{Record}
pub use Rattle.outside_switch.specs.DeviceCalls.{Asks, Puts, Reads, admitted_after, arrived_after, is_accepted, key_answer, terminal_at, told_after, typed_after, typed_answer}
pub use Rattle.outside_switch.specs.Held.{Held, at_boot}
pub use Rattle.outside_switch.specs.Shown.{AreTerminals, IsTerminal, Shows}
pub use Rattle.outside_switch.specs.Terminal.{KeptTerminal, after_arrival, after_telling, answered, blank, comes_next, covered_of, key_of, next_key, typing_answer, typing_refusal, with_key}
