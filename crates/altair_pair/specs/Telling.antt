-- What a picture is told of an event: what the message carries that it has sent, and what its node shows.
use Rattle.std.specs.Prelude.{◌≡◌, ℕ, List, Option, Some, None, option_map, unwrap_or, Result, Ok, slice_get}
use Rattle.disk_dcdd.specs.Address.{address_of}
use Rattle.event_callbacks.specs.declared.operations.Operation.{Operation}
use Rattle.event_callbacks.specs.declared.operations.Operation.TheVariants as operation
use Rattle.ft_world.specs.Shows.{Agree, IsStatusAt}
use Rattle.ft_world.specs.Standing.{Course}
use Rattle.shared_disk.specs.Arrivals.{read_address}
use Rattle.ft_world.specs.declared.hosts.NodeStatus.{NodeStatus}
use Rattle.ft_world.specs.declared.message.Message.{Message}
use Rattle.ft_world.specs.declared.message.Message.TheVariants as message
use Rattle.guest_lockstep.specs.Machine.{Machine}
use Rattle.i8080_words.specs.declared.refusal.Fault.{Fault}
use Rattle.log_channel.specs.Packet.{packet_at}
use Rattle.log_channel.specs.declared.packet.Packet.{Packet}
use Rattle.log_channel.specs.declared.packet.Packet.TheVariants as packet
use Rattle.log_entry.specs.Entries.{bare_of, count_of}
use Rattle.pair_events.specs.declared.reply.Reply.{Reply}
use Rattle.pair_events.specs.declared.reply.Reply.TheVariants as reply
use Rattle.pair_protocol.specs.World as protocol
use Rattle.sequence_diagram.specs.declared.moment.Cargo.{Cargo}
use Rattle.sequence_diagram.specs.declared.moment.Cargo.TheVariants as cargo
use Rattle.sequence_diagram.specs.declared.moment.NodeLook.{NodeLook}

-- what a released operation carries
abbrev pub released_cargo : Operation → Cargo
released_cargo (operation.Byte port number byte) = cargo.Byte port number byte
released_cargo (operation.Write write) = cargo.Write write.number (address_of write)

-- what a message of the protocol carries; an acknowledgement that does not report reports 0 as replayed
abbrev pub Carries : protocol.Message → Cargo → Type 0
Carries (protocol.LogEntry generation index entry) c = c ≡ cargo.Entry index (count_of entry) (bare_of entry)
Carries (protocol.Acknowledgement generation held replayed) c =
    (reports : Option ℕ) × (c ≡ cargo.Acknowledgement held reports) × (replayed ≡ unwrap_or reports 0)
Carries (protocol.ImagePart generation index part) c = c ≡ cargo.Part
Carries (protocol.Released o) c = c ≡ released_cargo o
Carries (protocol.WriteDone number) c = c ≡ cargo.Written number
Carries (protocol.SectorRead address number bytes) c = c ≡ cargo.Sector number address

-- the message that an answer names
abbrev pub message_in : List protocol.Message → Result Reply Fault → Option protocol.Message
message_in messages (Ok (reply.Message m)) = slice_get messages m
message_in messages answer = None

-- the cargo of an event is what its message carries, if it has sent one
abbrev pub TellsCargo : List protocol.Message → Result Reply Fault → Option Cargo → Type 0
TellsCargo messages answer told = Agree Carries (message_in messages answer) told

-- what a node shows of itself
abbrev pub look_of : ℕ → NodeStatus → NodeLook
look_of node status = record { node = node; role = status.role; count = status.count }

module _ {S : Type 0} (M : Machine S) (c : Course S) where
  pub record LooksAt (node : ℕ) (told : Option NodeLook) : Type 0 where
    pub status : Option NodeStatus
    pub is_there : IsStatusAt M (slice_get c.world.nodes node) status
    pub is : told ≡ option_map (look_of node) status

  -- the look of an event is that at its node, if it happens at one
  abbrev pub TellsLook : Option ℕ → Option NodeLook → Type 0
  TellsLook (Some node) told = LooksAt node told
  TellsLook None told = told ≡ None

-- the same of a message as it runs: a packet by what its bytes are read as
abbrev pub packet_cargo : Packet → Cargo
packet_cargo (packet.Log generation index entry) = cargo.Entry index (count_of entry) (bare_of entry)
packet_cargo (packet.Ack generation held replayed) = cargo.Acknowledgement held replayed

abbrev pub cargo_of : Message → Option Cargo
cargo_of (message.Log bytes) = option_map packet_cargo (packet_at bytes.items)
cargo_of (message.Ack bytes) = option_map packet_cargo (packet_at bytes.items)
cargo_of (message.Part bytes) = Some cargo.Part
cargo_of (message.Byte port number byte) = Some (cargo.Byte port number byte)
cargo_of (message.Write write) = Some (cargo.Write write.value.number (address_of write.value))
cargo_of (message.Written number) = Some (cargo.Written number)
cargo_of (message.Sector r) = Some (cargo.Sector r.value.number (read_address r.value))
