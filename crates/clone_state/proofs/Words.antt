-- What the proofs cite of the definitions here, and of the crates below, passed on together.
pub use Rattle.disk_dcdd.specs.Controller.{Follows, IsDrives, IsIssued, IsUnderHead}
pub use Rattle.disk_dcdd.specs.Drive.{Drives}
pub use Rattle.disk_dcdd.specs.Sector.{is_at, place_of}
pub use Rattle.disk_dcdd.specs.declared.drive.Drive.{Drive}
pub use Rattle.disk_dcdd.specs.declared.sector.CurrentSector.{CurrentSector}
pub use Rattle.disk_dcdd.specs.declared.sector.Place.{Place}
pub use Rattle.disk_dcdd.specs.declared.sector.SectorWrite.{SectorWrite}
pub use Rattle.disk_dcdd.specs.declared.sector.TheConstants.{SECTORS, SECTOR_BYTES}
pub use Rattle.guest_parts.specs.Guest.{Guest}
pub use Rattle.guest_parts.specs.Parts.{are_completed, are_levels, bytes_from, go_to, goes_to, may_be_completed, oldest_of, port_stands, stands, with_each, writes_of}
pub use Rattle.i8080_words.specs.declared.limits.TheConstants.{GREATEST_NUMBER}
pub use Rattle.i8080_words.specs.declared.refusal.Fault.{Fault}
pub use Rattle.i8080_words.specs.declared.refusal.Fault.TheVariants.{Malformed, NotWhole, OutOfMemory, Unknown, WrongGeneration}
pub use Rattle.log_entry.proofs.ReadingLaws.{IsBytes-drop, IsBytes-rest, admitted, first_read, not_refused}
pub use Rattle.log_entry.specs.Numbers.{IsBytes, generation_from, limited}
unfoldable pub use Rattle.log_entry.specs.Numbers.{number_from}
pub use Rattle.clone_state.specs.Assembly.{Gathering, Slots, answer_to, gathered, is_missing, is_whole, machine_in, nothing_gathered, whole_answer, with_part, without_part}
unfoldable pub use Rattle.clone_state.specs.Assembly.{after_forgetting, after_part, part_answer}
pub use Rattle.clone_state.specs.Checkpoint.{Checkpoint, FirstPart, byte_of, bytes_numbered, checkpoint_in_parts, checkpoint_of, guest_of, operations_in, window_of, write_at, writes_at}
unfoldable pub use Rattle.clone_state.specs.Checkpoint.{padded}
pub use Rattle.clone_state.specs.Codec.{Again, Codec, OneSpelling, alone, byte_at, bytes_at, read_all, read_each, spell_each}
unfoldable pub use Rattle.clone_state.specs.Codec.{both, by, bytes, counted, number, one, only, times}
pub use Rattle.clone_state.specs.FirstPart.{CurrentImage, FirstImage, PortImage, PortImage01, are_few, code_of_interrupts, code_of_receiver, current_of, drive_with, first_of_image, has_byte, has_window, image_of_first, interrupts_of, is_bit, is_current, is_flag_byte, is_interrupts, is_receiver, or_none, receiver_of, shown_current, some_below, spelling_01}
unfoldable pub use Rattle.clone_state.specs.FirstPart.{controller, current, devices, drives, fields, first, flags, interrupts, maybe, no_bytes, port, port_01, processor, receiver, registers, truth, two_numbers, versioned, word, write, writes}
pub use Rattle.clone_state.specs.Laws.{AreRead, FitsBoard, HasOneByte, HasSize, IndexesAreWithin, IsCopyable, IsMessage, PartsAreReadAgain}
pub use Rattle.clone_state.specs.Parts.{PartMessage, after_tag, checked, fitting, is_page, message_bytes, of_drives, part_count, pieces, read_joined, read_parts, table_count}
unfoldable pub use Rattle.clone_state.specs.Parts.{checkpoint_in, first_in, guest_in, is_payload, later_parts, message_at, page, parts_of, table}
pub use Rattle.clone_state.specs.Possible.{HasSizes, are_drives, are_in_order, are_outstanding, are_zeros, fits_together, has_current, has_drives, is_at_boot, is_issued, is_on_track, is_window, may_be_under_head, may_follow, may_halt, selects_attached}
unfoldable pub use Rattle.clone_state.specs.Possible.{is_controller, is_possible}
pub use Rattle.clone_state.specs.Reading.{IsOfBoard, controller_of, controller_with, fields_of, if_possible, writes_in}
pub use Rattle.clone_state.specs.Slots.{FitsSlot, HasPages, HasSlots, IsPage, bytes_in, fit_slots, is_free, numbers_at, numbers_in, slots_of, taken}
