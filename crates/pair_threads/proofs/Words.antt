-- What the proofs cite of the definitions here, and of the crates below, passed on together.
pub use Rattle.disk_dcdd.specs.Address.{address_of, same_address}
pub use Rattle.disk_dcdd.specs.declared.address.SectorAddress.{SectorAddress}
pub use Rattle.disk_dcdd.specs.declared.sector.SectorWrite.{SectorWrite}
pub use Rattle.event_callbacks.proofs.Names.{name_cases}
pub use Rattle.event_callbacks.specs.Operations.{id_of}
pub use Rattle.event_callbacks.specs.declared.operations.OpId.{OpId}
pub use Rattle.event_callbacks.specs.declared.operations.Operation.{Operation}
pub use Rattle.event_callbacks.specs.declared.operations.Operation.TheVariants.{Byte, Write}
pub use Rattle.guest_lockstep.proofs.Booted.{ComesAndGoes-booted, Counts-booted, Recorded-booted}
pub use Rattle.guest_lockstep.specs.Lockstep.{HasRoom, IsInput, StepsUnless, step_refusal}
pub use Rattle.guest_lockstep.specs.Machine.{Do, Machine, Move, Runs, Take, booted_from, refusal_of}
pub use Rattle.guest_lockstep.specs.Outstanding.{ComesAndGoes, completed_by}
pub use Rattle.guest_lockstep.specs.Reach.{Own, Owns, Reach, acceptances, accepted_at, bare, image, inputs, key_at, keys, operations, output, steps}
pub use Rattle.guest_lockstep.specs.Recorded.{Accepts, Counts, Recorded}
pub use Rattle.guest_lockstep.specs.declared.input.Input.{Input}
pub use Rattle.guest_lockstep.specs.declared.reads.Reads.TheVariants.{Logged}
pub use Rattle.i8080_words.specs.declared.refusal.Fault.TheVariants.{Idle, OutOfMemory}
pub use Rattle.log_entry.specs.Entries.{count_of, entries, entry_of, inputs_of, is_read, last_count}
pub use Rattle.log_entry.specs.declared.entry.Entry.{Entry}
pub use Rattle.log_entry.specs.declared.entry.Entry.TheVariants.{Mark}
pub use Rattle.pair_protocol.proofs.Traces.Lists.{among-left, among-prefix, among-right, bool_cases, same_some}
pub use Rattle.pair_protocol.proofs.Traces.Moves.{acceptances-append, acceptances_of-append, count_entry, inputs_of-append, inputs_of-entries, keys-append, last_count-append, operations-append, operations-prefix, output-append, owns-prefix, runs-append}
pub use Rattle.pair_protocol.specs.Faithful.{IsAllBut, IsImage, IsOutstanding, IsPrefix, MayHave}
pub use Rattle.pair_protocol.specs.Lawful.{Among, IsDone, IsUnwritten, IsWritten, Lawful}
pub use Rattle.pair_protocol.specs.World.{Arrival, SectorRecord, accepted_after, latest, record_after, sector_record}
pub use Rattle.pair_rule.proofs.Elements.{same_head, same_tail}
pub use Rattle.pair_rule.proofs.Filled.{all_map, all_more, among_last}
pub use Rattle.pair_rule.proofs.LongerRuns.{front}
pub use Rattle.pair_rule.specs.Kinds.{counted_at, with_known}
pub use Rattle.shared_disk.specs.Arrivals.{read_address}
pub use Rattle.pair_rule.specs.Knowledge.{AllAre, Decided, HasWrite, IsReplied, Stands, StartsWith, appended, arrives, byte_arrived, last_or, put_by, winner_of, with_release}
pub use Rattle.pair_rule.specs.Law.{IsTold, typed_at}
pub use Rattle.pair_rule.specs.Seats.{Carrier, Empties, Fills, Seat, Settled}
pub use Rattle.pair_rule.specs.Shown.{IsAcknowledged, arrival_of, notes_from}
pub use Rattle.pair_rule.specs.Threads.{CallKept, ThreadRun, bytes_accepted, knew}
pub use Rattle.pair_rule.specs.declared.payload.DiskAnswer.{DiskAnswer}
pub use Rattle.pair_rule.specs.declared.view.Arrived.{Arrived}
pub use Rattle.pair_rule.specs.declared.view.BackupView.{BackupView}
pub use Rattle.pair_rule.specs.declared.view.Core.{Core}
pub use Rattle.pair_rule.specs.declared.view.DiskView.{DiskView}
pub use Rattle.pair_rule.specs.declared.view.Knowledge.{Knowledge}
pub use Rattle.pair_rule.specs.declared.view.PrimaryView.{PrimaryView}
pub use Rattle.pair_rule.specs.declared.view.TerminalView.{TerminalView}
pub use Rattle.shared_disk.specs.declared.disk.SectorRead.{SectorRead}
pub use Rattle.shared_disk.specs.declared.store.Record.{Record}
pub use Rattle.pair_threads.specs.Asking.{HasAsked}
pub use Rattle.pair_threads.specs.Ending.{EachScreen, EndsAlone, EndsBy, EndsWell, IsTraceOf, IsWhereItLeads, NoSectorIsDue, NoneUnderWay, winner_named}
pub use Rattle.pair_threads.specs.Leading.{AreAnswers, HeardOn, IdlesIf, IsAnswer, IsGiven, IsLeading, Leads, LeadsOn, Says, TakesOn, by_port, longer_by}
pub use Rattle.pair_threads.specs.Primary.{CallsKept, IsAtRest, WorkerKeeps, WorkerLeads, Works, keys_by, keys_taken, told_by}
pub use Rattle.pair_threads.specs.Repeating.{FollowsFor, GoesOn, IsAt, IsStuck, Repeats}
pub use Rattle.shared_disk.specs.Records.{bytes_in}
pub use Rattle.pair_threads.specs.Stores.{Has, IsDiskOf, IsFirst, IsStore, Serves, at_boot}
pub use Rattle.pair_threads.specs.declared.backup.BackupWorker.{BackupWorker}
pub use Rattle.pair_threads.specs.declared.gate.Who.{Who}
pub use Rattle.pair_threads.specs.declared.port_inputs.PortInputs.{PortInputs}
pub use Rattle.pair_threads.specs.declared.primary.PrimaryWorker.{PrimaryWorker}
pub use Rattle.pair_threads.specs.declared.recording.Recording.{Recording}
