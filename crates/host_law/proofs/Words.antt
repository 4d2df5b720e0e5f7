-- The words of the proofs, passed on together.
pub use Rattle.disk_dcdd.specs.declared.address.SectorAddress.{SectorAddress}
pub use Rattle.event_callbacks.specs.declared.devices.TheConstants.{PORTS}
pub use Rattle.event_callbacks.specs.declared.operations.OpId.{OpId}
pub use Rattle.guest_lockstep.specs.Machine.{Machine}
pub use Rattle.guest_lockstep.specs.declared.reads.Reads.{Reads}
pub use Rattle.i8080_words.specs.declared.refusal.Fault.{Fault}
pub use Rattle.i8080_words.specs.declared.refusal.Fault.TheVariants.{Unknown, WrongRole, NotWhole, Lost}
pub use Rattle.pair_events.specs.declared.event.Event.{Event}
pub use Rattle.pair_protocol.specs.Change.{Acts, After, AtBoot, Change, Changes, Reached, Stays, Then}
pub use Rattle.pair_protocol.specs.Copying.{Copying, IsCopying}
pub use Rattle.pair_protocol.specs.Faithful.{Faithful, IsPrefix}
pub use Rattle.pair_protocol.specs.Grows.{Grows}
pub use Rattle.pair_protocol.specs.Lawful.{Among, Lawful}
pub use Rattle.pair_protocol.specs.Node.{Alone, Backup, Draining, Joining, Node, Primary, Role, Spare, begun, fetches, gets_part, goes_live, halts, hears, holds, is_role, joiner, joins, passes_input, passes_mark, passes_read, plainly_steps, primary_steps, primary_takes, alone_takes, spare, wins, won_role}
pub use Rattle.pair_protocol.specs.Refusals.{at_node, fault_if, first_of, refusal}
pub use Rattle.pair_protocol.specs.Reply.{Reply}
pub use Rattle.pair_protocol.specs.Row.{Accepts, Row}
pub use Rattle.pair_protocol.specs.World.{Acknowledgement, Arrival, ImagePart, LogEntry, Message, Released, SectorRead, Terminal, Winner, World, WriteDone, accepted, accepted_after, opening, sector_record, terminal, terminal_in, winner_in, with_arrival, with_host, with_key, with_message, with_node, with_pair, with_put, with_read, with_terminal, with_told, with_winner}
pub use Rattle.host_law.specs.Fleet.{Deed, Fleet, FleetStep, Happened, HostActs, OfHost, OfOutside, OutsideActs, act_of, acts_of, booted, outside_acts, sent_by, with_spares}
pub use Rattle.host_law.specs.Frame.{Act, AreAccepted, AsksArbiter, AsksSector, Came, Carries, Frame, HasLost, HasWon, Key, MayBegin, Recruits, TellsKeys}
pub use Rattle.host_law.specs.Host.{HasPort, HostRun, HostStep}
pub use Rattle.host_law.specs.Laws.{Course, Followed, Follows, IsCourse}
pub use Rattle.host_law.specs.Outside.{Outside, OutsideRun, OutsideStep}
pub use Rattle.host_law.specs.Shows.{AreTerminals, AreTold, IsTerminal, Shows, Tells}
