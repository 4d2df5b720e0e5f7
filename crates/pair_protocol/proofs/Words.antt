-- The words of the proofs, passed on together: what the definitions of the machine, its log and traces, its operations and
-- the protocol are called.
pub use Rattle.guest_lockstep.specs.Machine.{Do, Machine, Move, Runs, Take, booted_from, refusal_of, sector_refusal}
pub use Rattle.guest_lockstep.specs.Recorded.{Recorded}
pub use Rattle.guest_lockstep.specs.declared.input.Input.{Input}
pub use Rattle.guest_lockstep.specs.declared.reads.Reads.{Reads}
pub use Rattle.guest_lockstep.specs.Reach.{Own, Owns, Reach, acceptances, accepted_at, bare, byte_to, image, inputs, key_at, keys, operations, output, steps, timed, writes}
pub use Rattle.guest_lockstep.specs.declared.timed.Timed.{Timed}
pub use Rattle.log_entry.specs.Entries.{bare_of, count_of, entries, entry_of, input_of, inputs_of, is_read, last_count, marks, read_of, timed_in, timed_of}
pub use Rattle.log_entry.specs.declared.entry.Entry.{Entry}
pub use Rattle.log_entry.specs.declared.entry.Entry.TheVariants.{Mark}
pub use Rattle.event_callbacks.specs.declared.operations.Operation.{Operation}
pub use Rattle.event_callbacks.specs.declared.operations.Operation.TheVariants.{Byte, Write}
pub use Rattle.event_callbacks.specs.declared.operations.OpId.{OpId}
pub use Rattle.event_callbacks.specs.Operations.{id_of}
pub use Rattle.disk_dcdd.specs.Address.{address_of, same_address}
pub use Rattle.disk_dcdd.specs.declared.address.SectorAddress.{SectorAddress}
pub use Rattle.disk_dcdd.specs.declared.sector.SectorWrite.{SectorWrite}
pub use Rattle.pair_protocol.specs.Change.{Acknowledges, Acts, After, AloneReleases, AloneSteps, AloneTakes, Arrives, AtBoot, Change, Changes, Fetches, GetsPart, GoesLive, IsAtRead, MayTake, PrimaryReleases, PrimarySteps, PrimaryTakes, Reached, Replaying, ReplaysInput, ReplaysMark, ReplaysRead, ReplaysStep, SendsPart, Serving, Stays, Tells, Then, Types}
pub use Rattle.pair_protocol.specs.Copying.{Copying, IsCopying, Makes}
pub use Rattle.pair_protocol.specs.Faithful.{Faithful, IsAllBut, IsImage, IsOutstanding, IsPrefix, MayHave}
pub use Rattle.pair_protocol.specs.Lawful.{Among, IsUnwritten, IsWritten, Lawful}
pub use Rattle.pair_protocol.specs.Node.{Alone, Backup, Draining, Joining, Node, Note, Primary, Role, Spare, acts_as, alone_takes, begun, covers, fetches, first_node, gathered, gets_part, goes_live, halts, hears, holds, is_role, joiner, joins, keys_covered, note_of, notes_after, passes_input, passes_mark, passes_read, plainly_steps, primary_steps, primary_takes, replay_told, same_name, spare, told_by, wins, with_first, won_role}
pub use Rattle.pair_protocol.specs.Settled.{Settled, Settles, count_in, highest, is_backup, list_of}
pub use Rattle.pair_protocol.specs.Traces.{cut, quiet}
pub use Rattle.pair_protocol.specs.World.{Acknowledgement, Arrival, ImagePart, LogEntry, Message, Released, SectorRead, SectorRecord, Terminal, Winner, World, WriteDone, accepted, accepted_after, accepted_in, latest, no_terminal, opening, record_after, sector_record, terminal, terminal_in, winner_in, with_host, with_message, with_node, with_pair, with_put, with_terminal, with_told, with_winner}
