-- What the proofs cite of the definitions here, and of the crates below, passed on together.
pub use Rattle.atomic_table.proofs.Lists.{at_last, at_longer, at_set, set_else, set_here}
pub use Rattle.atomic_table.specs.Table.{Act, Allows, Final, Joins, Seen, Splits, State, Valid, carried_after, chain, gives, homes_after, keeps, rest, takes}
pub use Rattle.disk_dcdd.specs.Address.{address_of, same_address}
pub use Rattle.disk_dcdd.specs.declared.address.SectorAddress.{SectorAddress}
pub use Rattle.disk_dcdd.specs.declared.sector.SectorWrite.{SectorWrite}
pub use Rattle.event_callbacks.specs.Operations.{id_of}
pub use Rattle.event_callbacks.specs.declared.operations.OpId.{OpId}
pub use Rattle.event_callbacks.specs.declared.operations.Operation.{Operation}
pub use Rattle.event_callbacks.specs.declared.operations.Operation.TheVariants.{Byte, Write}
pub use Rattle.guest_lockstep.specs.Machine.{Do, Machine, Move, Runs, Take, refusal_of, sector_refusal}
pub use Rattle.guest_lockstep.specs.Reach.{acceptances, bare, inputs, keys, operations, output, steps}
pub use Rattle.guest_lockstep.specs.Recorded.{Counts, Recorded}
pub use Rattle.guest_lockstep.specs.Running.{Begin, More, Quiet}
pub use Rattle.guest_lockstep.specs.declared.input.Input.{Input}
pub use Rattle.guest_lockstep.specs.declared.reads.Reads.TheVariants.{Logged}
pub use Rattle.guest_lockstep.specs.declared.timed.Bare.TheVariants.{Written}
pub use Rattle.guest_lockstep.specs.declared.timed.Timed.{Timed}
pub use Rattle.i8080_words.specs.declared.refusal.Fault.TheVariants.{BadAck, Idle, LogFull, Lost, NotCovered, NotDue, SectorBusy, Spent, StaleRead, Unknown, WrongNumber}
pub use Rattle.log_entry.specs.Entries.{count_of, entries, entry_of, input_of, inputs_of, last_count, marks}
pub use Rattle.log_entry.specs.declared.entry.Entry.{Entry}
pub use Rattle.log_entry.specs.declared.entry.Entry.TheVariants.{Mark, Read, Rx}
pub use Rattle.pair_events.specs.declared.event.Event.{Event}
pub use Rattle.pair_events.specs.declared.event.Event.TheVariants.{Acknowledge, Arrive, DeliverAcknowledgement, DeliverLog, Get, GetReply, Put, PutReply, Release, Send, Step, Stop, Suspect, TakeKey, TellSent, TypeByte}
pub use Rattle.pair_protocol.proofs.Keeps.Disk.{AsBefore, LatestIs, OfPut, latest_all, latest_is}
pub use Rattle.pair_protocol.proofs.Keeps.PrimaryMoves.{sector-passed}
pub use Rattle.pair_protocol.proofs.Traces.Lists.{among-left, among-prefix, among-split, and_parts, get-longer, map-append, same_some}
pub use Rattle.pair_protocol.proofs.Traces.Moves.{acceptances-append, count_entry, entries-append, inputs-append, inputs_of-append, inputs_of-entries, keys-append, last_count-append, operations-append, operations-prefix, runs-append, steps-append, timed_entry}
pub use Rattle.pair_protocol.proofs.Traces.Recorded.{recorded-append, recorded-rest, recorded-runs}
pub use Rattle.pair_protocol.specs.Change.{AtBoot, Reached}
pub use Rattle.pair_protocol.specs.Copying.{Copying, IsCopying}
pub use Rattle.pair_protocol.specs.Faithful.{Faithful, IsAllBut, IsPrefix, MayHave}
pub use Rattle.pair_protocol.specs.Lawful.{Among, IsDone, IsUnwritten, IsWritten, Lawful}
unfoldable pub use Rattle.pair_protocol.specs.Lawful.{top}
pub use Rattle.pair_protocol.specs.Laws.{ChangesReach, ReachedGrows, ReachedIsFaithful, RowIsChanges}
pub use Rattle.pair_protocol.specs.Node.{Node, Note, covers, halts, hears, holds, note_of, notes_after, primary_takes, same_name, wins}
pub use Rattle.pair_protocol.specs.Refusals.{acknowledge_refusal, ask_refusal, at_acknowledgement, at_log_entry, at_node, at_sector_read, at_write_done, byte_refusal, fault_if, first_of, get_refusal, is_number, is_other, log_size, no_such, refusal, release_refusal, send_refusal, step_refusal, stop_refusal, take_key_refusal, tell_sent_refusal, write_refusal}
pub use Rattle.pair_protocol.specs.Reply.{Accepted, Dropped, HeldIs, MessageIs, New, Old, Ran, Refused, Reply, Taken, TypedAt, Won}
pub use Rattle.pair_protocol.specs.Row.{Accepts, Refuses, Row}
pub use Rattle.pair_protocol.specs.World.{Acknowledgement, ImagePart, LogEntry, Message, Released, SectorRecord, Winner, World, WriteDone, accepted, accepted_in, latest, opening, sector_record, terminal, terminal_in, winner_in, with_arrival, with_message, with_node, with_put, with_read, with_winner}
pub use Rattle.shared_disk.specs.declared.disk.SectorRead.{SectorRead}
pub use Rattle.pair_rule.specs.Boxes.{Backup, Boxed, Boxes, Disk, Homes, Laid, Link, Primary, Terminal, Who, box_index, emptier, empty_word, filler, filler_met, full_word, is_full, number_of, seat_index, side, slot_of}
pub use Rattle.pair_rule.specs.Histories.{AsksNot, IsReply, MayAppend, MayPut, PlainRun, PlainStep}
pub use Rattle.pair_rule.specs.Kinds.{Emptied, Filled, Mine, Swapped, WasIn, appends, contests_backup, contests_primary, counted_at, counts, counts_at, emptied, empties, filled, fills, found_empty, gives_last_slot, holds_entries, know_of, mixed, nobody, only, part_of, sees, sees_count, sees_count_at, side_at, spent_view, takes_first_slot, which, with_core, with_known, with_part, with_slot, without}
pub use Rattle.shared_disk.specs.Arrivals.{read_address}
pub use Rattle.pair_rule.specs.Knowledge.{AllAre, CanFill, Decided, Fits, HasWrite, IsAsked, IsByteOf, IsEntryOf, IsReplied, PortStands, Replies, Rising, Stands, StartsWith, WhereSome, accepted_after, accepted_at, accepted_with, after_empty, after_fill, appended, arrives, backup_asked, byte_arrived, grown, held, last_or, primary_asked, put_by, saw, saw_count, winner_after, winner_of, with_entry, with_release, with_request, words_of}
pub use Rattle.pair_rule.specs.Law.{AnswersRead, AppendEvents, Appends, Arrives, AsksRead, BackupLoses, BackupWins, CountsNone, EventsOf, HasAnswer, HasLonger, HasPort, HasRun, Holds, IsCovered, IsTold, Keeps, LeadsFaithfully, PrimaryLoses, PrimaryWins, Puts, Releases, Runnable, SeeEvents, Sees, SeesCount, SilentStep, SilentStepsShow, StartsShown, StepsAreEvents, StepsAreFaithful, Takes, TakesByte0, TakesByte1, TakesRequest, ThreadStep, typed_at, with_released}
pub use Rattle.pair_rule.specs.Rules.{CountedBy, Facts, Has, Moment, Part, Rule, Same, SamePart, Sized, core_of, first_core, first_known, first_view, has, new_side, part, view_of}
pub use Rattle.pair_rule.specs.Seats.{Empties, Fills, HasSwapsLeft, LeavesRoom, Opened, all_below, most_swaps, numbers, zeros}
pub use Rattle.pair_rule.specs.Shown.{First, Happens, IsAcknowledged, IsSentBy, Leads, Nothing, Sent, Shows, ShowsVisible, Visible, arrival_of, backup_node, backup_role, backup_runs, hand_of, notes_from, primary_node, primary_role, primary_runs, terminals_of, visible, winners_of}
pub use Rattle.pair_rule.specs.Steps.{BackupAsks, CountEvents, EmptyEvents, FillEvents, HasEvents, HasNoEvents, PrimaryAsks, Promised, ReadsBoot, Stays, TableEvents, TableStep, TableStepsAreFaithful, TableStepsAreSteps}
pub use Rattle.pair_rule.specs.Threads.{AreKept, ByteIsAcknowledged, Goes, IsAnswered, IsShown, KeptStepsAreThreads, ListIsTold, Opens, PortIsTold, PrimaryIsTold, Promises, ThreadsAreFaithful, bytes_accepted, knew}
pub use Rattle.pair_rule.specs.declared.mailbox.Mailbox.{Mailbox}
pub use Rattle.pair_rule.specs.declared.mailbox.Mailbox.TheVariants.{Answers, Bytes0, Bytes1, Inbox, Outbox, Requests}
pub use Rattle.pair_rule.specs.declared.payload.DiskAnswer.{DiskAnswer}
pub use Rattle.pair_rule.specs.declared.payload.DiskRequest.{DiskRequest}
pub use Rattle.pair_rule.specs.declared.payload.Packet.{Packet}
pub use Rattle.pair_rule.specs.declared.payload.Payload.{Payload}
pub use Rattle.pair_rule.specs.declared.payload.Payload.TheVariants.{Answer, Log, Out, Request}
pub use Rattle.pair_rule.specs.declared.view.Arrived.{Arrived}
pub use Rattle.pair_rule.specs.declared.view.BackupView.{BackupView}
pub use Rattle.pair_rule.specs.declared.view.Core.{Core}
pub use Rattle.pair_rule.specs.declared.view.DiskView.{DiskView}
pub use Rattle.pair_rule.specs.declared.view.Knowledge.{Knowledge}
pub use Rattle.pair_rule.specs.declared.view.PrimaryView.{PrimaryView}
pub use Rattle.pair_rule.specs.declared.view.SeatView.{SeatView}
pub use Rattle.pair_rule.specs.declared.view.Side.{Side}
pub use Rattle.pair_rule.specs.declared.view.TerminalView.{TerminalView}
