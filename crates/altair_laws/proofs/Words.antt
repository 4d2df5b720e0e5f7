-- What the proofs cite of the definitions here, and of the crates below, passed on together.
pub use Rattle.disk_dcdd.specs.Address.{address_of, has_sector, index_of, is_on_disk, same_address}
pub use Rattle.disk_dcdd.specs.Command.{commanded_drive, commanded_sector, drive_at_boot, has_bit, loaded, moves_head, selected_by, started, stepped_in, stepped_out, unloaded, where_set}
pub use Rattle.disk_dcdd.specs.Completion.{is_busy_on, is_head_loaded, is_outstanding, is_sector_busy, is_sector_due, is_selected}
pub use Rattle.disk_dcdd.specs.Controller.{AreDrives, AreOutstanding, Follows, IsDrives, IsIssued, IsUnderHead}
pub use Rattle.disk_dcdd.specs.Drive.{Drives, after_command, after_data, after_issue, after_keep, after_position, after_read, after_select, commanded, drive_of, has_room, issued_at, issued_by, kept_at, write_of}
pub use Rattle.disk_dcdd.specs.Sector.{IsUnfinished, after_reading, after_showing, is_at, is_shown_now, is_written, may_fill, may_read, place_of, with_byte_filled}
pub use Rattle.disk_dcdd.specs.declared.address.SectorAddress.{SectorAddress}
pub use Rattle.disk_dcdd.specs.declared.address.TheConstants.{DRIVE_SECTORS}
pub use Rattle.disk_dcdd.specs.declared.controller.TheConstants.{DRIVES, OUTSTANDING}
pub use Rattle.disk_dcdd.specs.declared.drive.TheConstants.{TRACKS}
pub use Rattle.disk_dcdd.specs.declared.sector.CurrentSector.{CurrentSector}
pub use Rattle.disk_dcdd.specs.declared.sector.Place.{Place}
pub use Rattle.disk_dcdd.specs.declared.sector.SectorWrite.{SectorWrite}
pub use Rattle.disk_dcdd.specs.declared.sector.TheConstants.{SECTORS, SECTOR_BYTES}
pub use Rattle.event_callbacks.proofs.OperationMap.{operation_at-empty, operation_at-with, operation_at-with_named, operation_at-with_other, operation_at-without_named, operation_at-without_other}
pub use Rattle.event_callbacks.specs.Completions.{is_due, port_of}
pub use Rattle.event_callbacks.specs.Operations.{Operations, id_of, operation_at, with_operation, without_operation}
pub use Rattle.event_callbacks.specs.declared.operations.OpId.{OpId}
pub use Rattle.event_callbacks.specs.declared.operations.Operation.{Operation}
pub use Rattle.event_callbacks.specs.declared.operations.Operation.TheVariants.{Byte, Write}
pub use Rattle.guest_board.specs.Guest.{address_under, after_rx, after_sector, after_sent, after_written, altair, due_byte, guest_at_boot, is_idle, is_spent, may_take_sector, next, oldest_byte, step_from, stepped, take_from, wired, with_completed, with_given}
unfoldable pub use Rattle.guest_board.specs.Guest.{step_of, wired_after}
pub use Rattle.guest_board.specs.Ports.{Wired, after_access, after_byte, after_disk_data, after_out, after_serial_data, device_at, devices_after_in, with_disk, with_port, write_given}
pub use Rattle.guest_board.specs.declared.setup.Setup.{Setup}
pub use Rattle.guest_lockstep.specs.Machine.{Do, Machine, Move, Runs, Take}
pub use Rattle.guest_lockstep.specs.Reach.{acceptances, bare, bytes_after, image_from, inputs, keys, operations, output, steps}
pub use Rattle.guest_lockstep.specs.declared.input.Input.{Input}
pub use Rattle.guest_lockstep.specs.declared.input.Input.TheVariants.{Rx, Sector, Sent, Written}
pub use Rattle.guest_parts.specs.Guest.{Guest}
pub use Rattle.i8080_words.specs.declared.limits.TheConstants.{GREATEST_NUMBER}
pub use Rattle.i8080_words.specs.declared.registers.Processor.{Processor}
pub use Rattle.pair_protocol.proofs.Traces.Lists.{among-left, among-right, among-split}
pub use Rattle.pair_protocol.proofs.Traces.Moves.{acceptances_of-append, inputs-append, keys_of-append, operations-append, output-append, runs-split, steps-append}
pub use Rattle.pair_protocol.specs.Lawful.{Among, IsUnwritten, IsWritten, Lawful, Reaches}
unfoldable pub use Rattle.pair_protocol.specs.Lawful.{top}
pub use Rattle.altair_laws.specs.Stands.{AltairStands, AreBytes, AreWhole, AreWholeWrites, AreWrites, IsLast, IsPending, IsWhole, IsWithin}
