-- What the proofs cite of the definitions here, and of the crates below, passed on together.
pub use Rattle.clone_state.specs.Assembly.{Gathering, Slots, answer_to, is_missing, is_whole, machine_in, with_part, without_part}
unfoldable pub use Rattle.clone_state.specs.Assembly.{after_forgetting, after_part, part_answer}
pub use Rattle.clone_state.specs.Copies.{CopiesAs, image_parts, refused_as}
pub use Rattle.clone_state.specs.Parts.{PartMessage, guest_in, message_at, part_count}
pub use Rattle.disk_dcdd.specs.Completion.{answered}
pub use Rattle.event_callbacks.specs.Operations.{id_of}
pub use Rattle.event_callbacks.specs.declared.operations.OpId.{OpId}
pub use Rattle.event_callbacks.specs.declared.operations.Operation.{Operation}
pub use Rattle.guest_lockstep.specs.Machine.{Machine, refusal_of}
pub use Rattle.guest_lockstep.specs.Outstanding.{AreFew, ComesAndGoes, IsFrugal, completed_by}
pub use Rattle.guest_lockstep.specs.Running.{AllTurns, Begin, IsRefused, More, Quiet, RunsOn, fault_of}
pub use Rattle.guest_lockstep.specs.declared.reads.Reads.{Reads}
pub use Rattle.guest_lockstep.specs.declared.running.Stopped.{Stopped}
pub use Rattle.guest_lockstep.specs.declared.timed.Timed.{Timed}
pub use Rattle.i8080_words.specs.declared.refusal.Fault.{Fault}
pub use Rattle.i8080_words.specs.declared.refusal.Fault.TheVariants.{BadAck, Idle, LogFull, Malformed, NotCovered, NotDue, OutOfMemory, Spent, StaleRead, Unknown, WrongGeneration, WrongNumber, WrongRole}
pub use Rattle.log_buffer.specs.Log.{IsWithinLimits, Log, dropped_to, log, next_of, pushed}
pub use Rattle.log_channel.specs.Channel.{Receiving, Sending, ack_answer, acknowledged, holding}
pub use Rattle.log_entry.specs.Entries.{entry_of, inputs_of, is_read, marks}
pub use Rattle.log_entry.specs.Spelling.{IsEntry}
pub use Rattle.log_entry.specs.declared.entry.Entry.{Entry}
pub use Rattle.output_rule.specs.Covering.{Covering, IsCovering, after_acknowledge, after_forget, after_note, is_noted_covered, nothing_acknowledged}
pub use Rattle.pair_protocol.specs.Copying.{Copying}
pub use Rattle.pair_protocol.specs.Effects.{Advances, Again, AtEnd, AwaitsBytes, Comes, Completes, Ends, Goes, GotPart, Held, IsBehind, MovesSome, NeedsMoves, NoMemory, NoTurns, NoneLeft, OneInput, OneMark, OneRead, OneStep, Replays, Short, Took, Waits, after_drain, stepped, took, wanted}
pub use Rattle.pair_protocol.specs.Node.{Alone, Backup, Draining, Joining, Node, Note, Primary, Role, acts_as, begun, covers, fetches, gathered, gets_part, goes_live, halts, hears, holds, is_role, joins, note_of, notes_after, primary_steps, primary_takes, with_first}
pub use Rattle.pair_protocol.specs.Refusals.{begin_pair_refusal, deliver_acknowledgement_refusal, deliver_log_refusal, fault_if, first_of, generation_refusal, get_reply_refusal, has_part, is_number, keys_spent, log_full, log_size, log_spent, part_comes_refusal, put_reply_refusal, release_refusal, role_refusal, send_part_refusal, serves, step_refusal, stop_refusal, take_key_refusal, tell_sent_refusal}
unfoldable pub use Rattle.pair_protocol.specs.Refusals.{last_generation}
pub use Rattle.pair_protocol.specs.Waiting.{reads_in, up_to_read, waits_for}
pub use Rattle.log_buffer.specs.Log.{kept as buffered}
pub use Rattle.log_buffer.specs.Logs.{room_answer}
pub use Rattle.recorder.specs.Recording.{AdvancesSome, AdvancesUnless, Offers, advance_refusal, logged, refusal_behind}
pub use Rattle.ft_node.specs.Calls.{BeginsPair, Begun, Call, DeliversAcknowledgement, DeliversLog, Ever, Expects, Freshens, GetsPart, Gives, HasTakenKeys, IsLast, Makes, SendsPart, SpellsPart, Unless, last_refusal, next_after, part_refusal, parts_with, part_reply, unfit}
pub use Rattle.ft_node.specs.Noting.{HasPlace, noted, with_entry}
pub use Rattle.ft_node.specs.Roles.{AreOfOutstanding, Covers, HasImage, IsAlone, IsFollower, IsImageOf, IsJoining, IsPrimary, waits_in, waits_of}
pub use Rattle.ft_node.specs.AnyNode.{Becomes, IsNode, alone_board, board_of}
