-- What the proofs cite of the definitions here, and of the crates below, passed on together.
pub use Rattle.disk_dcdd.specs.Completion.{after_written, answered, is_outstanding}
pub use Rattle.disk_dcdd.specs.Sector.{may_fill, place_of, with_byte_filled}
pub use Rattle.disk_dcdd.specs.declared.sector.Place.{Place}
pub use Rattle.disk_dcdd.specs.declared.sector.SectorWrite.{SectorWrite}
pub use Rattle.event_callbacks.specs.Completions.{at_boot, done_of, is_due, port_of}
pub use Rattle.event_callbacks.specs.Operations.{Operations, Outstanding, after_complete, id_of, nothing_outstanding, operation_at, with_operation, without_operation}
pub use Rattle.event_callbacks.specs.declared.devices.Devices.{Devices}
pub use Rattle.event_callbacks.specs.declared.devices.TheConstants.{PORTS}
pub use Rattle.event_callbacks.specs.declared.operations.OpId.{OpId}
pub use Rattle.event_callbacks.specs.declared.operations.Operation.{Operation}
pub use Rattle.guest_lockstep.specs.Lockstep.{Executes, Steps, StepsUnless, named, step_refusal}
pub use Rattle.guest_parts.specs.Board.{AreAwaited, AreCompleted, AreInRange, IsBoard, IsHeld, OnBoard, is_on_its_way}
pub use Rattle.guest_parts.specs.Guest.{Guest}
pub use Rattle.i8080_words.specs.Effects.{Access, Effect, after_accesses, effect, holds, put, quiet}
pub use Rattle.i8080_words.specs.Steps.{Step, heard, idle, ran, step, unless_heard}
pub use Rattle.i8080_words.specs.declared.limits.TheConstants.{GREATEST_NUMBER}
pub use Rattle.i8080_words.specs.declared.refusal.Fault.{Fault}
pub use Rattle.i8080_words.specs.declared.refusal.Fault.TheVariants.{Idle, NotDue, OutOfMemory, Spent}
pub use Rattle.i8080_words.specs.declared.registers.Processor.{Processor}
pub use Rattle.i8080_words.specs.declared.registers.Stepped.{Stepped}
pub use Rattle.guest_board.specs.Guest.{after_rx, due_byte, is_idle, is_spent, is_spent_at, line_of, next, oldest_byte, step_from, wired, with_completed, with_given}
unfoldable pub use Rattle.guest_board.specs.Guest.{step_of, wired_after}
pub use Rattle.guest_board.specs.Inputs.{some_altair, unless_due}
pub use Rattle.guest_board.specs.Ports.{Wired, after_access, after_byte, after_disk_data, after_out, after_serial_data, device_at, devices_after_in, memory_byte, port_byte, with_disk, with_port, write_given}
pub use Rattle.guest_board.specs.Stepping.{IsAnswer, answer_by, by_name, counted, exec_answer, given_by, guest_after, name_by, next_versions, refusal_at, versions_after_answer}
pub use Rattle.guest_board.specs.Wiring.{IsThere, Versioned, byte_behind, input_behind, versioned_after, versions_after}
