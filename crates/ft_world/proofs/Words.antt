-- What the proofs cite of the definitions here, and of the crates below, passed on together.
pub use Rattle.arbiter_core.specs.Winners.{after_asking, winner_of}
pub use Rattle.arbiter_core.specs.declared.arbiter.Asking.{Asking}
pub use Rattle.arbiter_core.specs.declared.arbiter.Won.{Won}
pub use Rattle.disk_dcdd.specs.Address.{address_of, has_sector, is_on_disk, same_address}
pub use Rattle.disk_dcdd.specs.Completion.{answered}
pub use Rattle.disk_dcdd.specs.declared.address.SectorAddress.{SectorAddress}
pub use Rattle.disk_dcdd.specs.declared.sector.SectorWrite.{SectorWrite}
pub use Rattle.event_callbacks.specs.declared.devices.TheConstants.{PORTS}
pub use Rattle.event_callbacks.specs.declared.operations.Operation.{Operation}
pub use Rattle.ft_node.specs.Calls.{Ask, Begins, Call, DeliversAcknowledgement, DeliversLog, DrainedBy, Ever, Freshens, Gives, IsLast, IsSpelled, Makes, Never, ReplayedBy, SendsEntry, SpellsPart, SteppedBy, Suspects, SuspectsOf, Unless, part_refusal, reported_by}
pub use Rattle.ft_node.specs.Roles.{AreOfOutstanding, IsFollower, node_count}
pub use Rattle.ft_node.specs.AnyNode.{AreFreshened, IsNode, IsRole, MayAccept, MayHold, MayReplay, MayRun, PagesStay, alone_board, board_of}
pub use Rattle.guest_lockstep.specs.Machine.{Do, Machine, Move, Runs, Take, booted_from}
pub use Rattle.guest_lockstep.specs.Reach.{keys, operations, timed}
pub use Rattle.guest_lockstep.specs.declared.input.Input.{Input}
pub use Rattle.guest_lockstep.specs.declared.reads.Reads.{Reads}
pub use Rattle.guest_parts.specs.Guest.{Guest}
pub use Rattle.i8080_words.specs.declared.refusal.Fault.{Fault}
pub use Rattle.i8080_words.specs.declared.refusal.Fault.TheVariants.{DeviceFault, Lost, Malformed, NotDue, NotWhole, OutOfMemory, StaleRead, Unknown, WrongGeneration, WrongRole}
pub use Rattle.log_entry.specs.Entries.{entries, entry_of, inputs_of, last_count, timed_in, timed_of}
pub use Rattle.log_entry.specs.declared.entry.Entry.{Entry}
pub use Rattle.pair_events.specs.declared.event.Event.{Event}
pub use Rattle.pair_events.specs.declared.reply.Reply.{Reply}
pub use Rattle.pair_protocol.proofs.Booted.{Drained-booted, IsBehind-booted, IsOnTrace-back, Replayed-booted, Stepped-booted, Took-booted, keys_covered-booted}
pub use Rattle.pair_protocol.proofs.OneNode.{is-at-read, set_get, with_same}
pub use Rattle.pair_protocol.proofs.Passed.{acts-in, changes-append, first-passed, node-passed, only-passed, passes-if, replaying, serving}
pub use Rattle.pair_protocol.proofs.Promises.Growth.{changes_grow, row_grows}
pub use Rattle.pair_protocol.proofs.Promises.NodeStands.{nodes_stand}
pub use Rattle.pair_protocol.proofs.Promises.OneMore.{accepted-one, arrival-counts, terminal-set}
pub use Rattle.pair_protocol.proofs.Promises.Runs.{always_faithful, changes_reach}
pub use Rattle.pair_protocol.proofs.RowActions.{row_changes, step-serves}
pub use Rattle.pair_protocol.proofs.Traces.Lists.{among-get, drop-at, get_set, get_set_other, same_or_not, same_some}
pub use Rattle.pair_protocol.proofs.Traces.Moves.{inputs_of-append, last_count-append, runs-append}
pub use Rattle.pair_protocol.specs.Change.{After, AtBoot, Changes, Fetches, GetsPart, HostComes, Reached, Replaying, Serving, Then}
pub use Rattle.pair_protocol.specs.Copying.{Copying, IsCopying}
pub use Rattle.pair_protocol.specs.Effects.{Advances, Again, AtEnd, AwaitsBytes, Comes, Completes, Drained, Ends, Fetched, Goes, GotPart, Halted, HasCovered, HasOutstanding, Heard, Held, IsUnder, NeedsEntry, NeedsMoves, NoMemory, NoTurns, NoneLeft, OneInput, OneMark, OneRead, OneStep, Replays, Short, Took, Waits, Wants, after_drain, next_read, stepped, took, wanted, wanted_of}
pub use Rattle.pair_protocol.specs.Lawful.{Among, Lawful, Reaches}
pub use Rattle.pair_protocol.specs.Node.{Alone, Backup, Draining, Joining, Node, Primary, Role, Spare, acts_as, begun, fetches, first_node, gathered, gets_part, halts, holds, is_role, joiner, passes_input, passes_mark, passes_read, plainly_steps, replay_told, spare, told_by, wins, won_role}
pub use Rattle.pair_protocol.specs.Refusals.{acknowledge_refusal, ask_refusal, at_acknowledgement, at_fetched, at_host, at_log_entry, at_node, at_part, at_sector_read, at_write_done, begin_pair_refusal, byte_refusal, deliver_acknowledgement_refusal, deliver_log_refusal, drain_refusal, fault_if, fetch_refusal, fetched_refusal, first_of, freshen_refusal, generation_refusal, get_refusal, is_other, no_port, no_sector, no_such, not_accepted, not_typed, pair_refusal, part_comes_refusal, refusal, release_refusal, replay_refusal, role_refusal, send_part_refusal, send_refusal, serves, step_refusal, stop_refusal, suspect_refusal, told_refusal, write_refusal}
pub use Rattle.pair_protocol.specs.Row.{Accepts, DeviceFails, Leaves, NeedsMemory, Refuses, Row}
pub use Rattle.pair_protocol.specs.Rows.{AtNode, Does, MayNeedMemory, OfNode, drain_reply, is_disk}
pub use Rattle.pair_protocol.specs.Settled.{Settled, Settles, count_in, highest, is_backup, list_of}
pub use Rattle.pair_protocol.specs.SharedDevices.{AreWinners, IsDisk}
pub use Rattle.pair_protocol.specs.World.{Released, World, accepted, accepted_after, accepted_in, latest, no_terminal, opening, record_after, sector_record, terminal, terminal_in, winner_in, with_arrival, with_host, with_key, with_message, with_node, with_pair, with_put, with_read, with_told, with_winner}
pub use Rattle.shared_disk.specs.Arrivals.{IsGreatest, after_meeting, read_of, record_of, written_at, read_address}
pub use Rattle.shared_disk.specs.Failing.{before_failures}
pub use Rattle.shared_disk.specs.Records.{IsAt, boot_record, faults_in, record_at, with_record}
pub use Rattle.shared_disk.specs.declared.disk.SectorRead.{SectorRead}
pub use Rattle.shared_disk.specs.declared.store.Record.{Record}
pub use Rattle.terminals.specs.Screen.{Screen, after_arrival, after_key, after_telling, blank, comes_next}
pub use Rattle.ft_world.specs.Applies.{Applies, First, Happens, IsFaithful, Nothing, Rows, Shows, ShowsParts, ShowsSome, failures_over, failures_told}
pub use Rattle.ft_world.specs.Chaining.{HasApplied, HaveApplied}
pub use Rattle.ft_world.specs.Devices.{Arrives, GetsSector, PutsWrite, Types, no_device, screen_in}
pub use Rattle.ft_world.specs.Freshened.{HostFreshened, LowestAreCopied, PagesAfter, PagesChange, PagesKeep, TellsStale, alone_at, alone_on}
pub use Rattle.ft_world.specs.Lending.{HasNoNode, IsSpare, WithStation}
pub use Rattle.ft_world.specs.Messages.{Releases, Says, ack_of, byte_of, log_of, operation_of, part_of, sector_of, write_of, written_of}
pub use Rattle.ft_world.specs.Opening.{HasJoined, HasSpare, IsOpening, JoinsHosts, Opens, host_refusal}
pub use Rattle.ft_world.specs.Running.{Running}
pub use Rattle.ft_world.specs.Shows.{Agree, AreHosts, AreMessages, AreTerminals, IsHost, IsOnlyBackup, IsStation, IsStatusAt, IsTerminal, drained_count}
pub use Rattle.ft_world.specs.Standing.{Course, IsMachine, machine_of}
pub use Rattle.ft_world.specs.Staying.{DiskFails, Except, NodeHalts, SpareHostsStay, SparesAfter, SparesLeft, Stays, spare_of}
pub use Rattle.ft_world.specs.Words.{IsMessage, IsRead, answer_of, reply_of}
pub use Rattle.ft_world.specs.declared.host.Host.{Host}
pub use Rattle.ft_world.specs.declared.message.Message.{Message}
pub use Rattle.ft_world.specs.declared.opening.Opening.{Opening}
pub use Rattle.ft_world.specs.declared.station.Station.{Station}
