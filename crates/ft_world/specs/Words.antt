-- Replies and messages in the protocol's words.
use Rattle.std.specs.Prelude.{◌≡◌, ℕ, ◌<◌, ◌^◌, List, Option, Some, unwrap_or, Result, Ok, Err}
use Rattle.clone_state.specs.Image.{part_bytes}
use Rattle.disk_dcdd.specs.declared.address.SectorAddress.{SectorAddress}
use Rattle.disk_dcdd.specs.declared.controller.TheConstants.{DRIVES}
use Rattle.disk_dcdd.specs.declared.sector.TheConstants.{SECTORS}
use Rattle.event_callbacks.specs.declared.operations.Operation.TheVariants as operation
use Rattle.i8080_words.specs.declared.refusal.Fault.{Fault}
use Rattle.log_channel.specs.Packet.{packet_at}
use Rattle.log_channel.specs.declared.packet.Packet.TheVariants as packet
use Rattle.shared_disk.specs.Arrivals.{read_address}
use Rattle.shared_disk.specs.declared.disk.SectorRead.{SectorRead}
use Rattle.pair_protocol.specs.Reply as protocol
use Rattle.pair_protocol.specs.World as sent
use Rattle.ft_world.specs.declared.message.Message.{Message}
use Rattle.ft_world.specs.declared.message.Message.TheVariants as message
use Rattle.pair_events.specs.declared.reply.Reply.{Reply}
use Rattle.pair_events.specs.declared.reply.Reply.TheVariants as reply

-- the reply of the protocol that an answer stands for
abbrev pub reply_of : Reply → protocol.Reply
reply_of (reply.Ran steps count why) = protocol.Ran steps count why
reply_of (reply.Typed index) = protocol.TypedAt index
reply_of reply.Taken = protocol.Taken
reply_of (reply.Message m) = protocol.MessageIs m
reply_of reply.New = protocol.New
reply_of reply.Old = protocol.Old
reply_of (reply.Held held) = protocol.HeldIs held
reply_of (reply.Moved moves why) = protocol.Moved moves why
reply_of (reply.MovedAlone moves) = protocol.MovedAlone moves
reply_of reply.Accepted = protocol.Accepted
reply_of reply.Dropped = protocol.Dropped
reply_of (reply.Told keys) = protocol.ToldIs keys
reply_of reply.Won = protocol.Won
reply_of reply.Stopped = protocol.Stopped
reply_of (reply.Generation generation) = protocol.GenerationIs generation
reply_of reply.Whole = protocol.Whole
reply_of (reply.Stale pages) = protocol.StaleIs pages

abbrev pub answer_of : Result Reply Fault → protocol.Reply
answer_of (Ok r) = reply_of r
answer_of (Err fault) = protocol.Refused fault

-- what a sector has, with where and by which write
abbrev pub IsRead : SectorAddress → ℕ → List ℕ → SectorRead → Type 0
IsRead address number bytes r =
    (address ≡ read_address r) × (number ≡ r.number) × (bytes ≡ r.bytes) × (r.drive < DRIVES) × (r.sector < SECTORS)

-- a message is this one of the protocol: a packet or a part of an image, by its bytes; an acknowledgement without a
-- report reports 0 as replayed, and the generation of a part is from 1 to 2^32 - 1
abbrev pub IsMessage : Message → sent.Message → Type 0
IsMessage (message.Log bytes) (sent.LogEntry generation index e) =
    packet_at bytes.items ≡ Some (packet.Log generation index e)
IsMessage (message.Ack bytes) (sent.Acknowledgement generation held replayed) =
    (reports : Option ℕ) × (packet_at bytes.items ≡ Some (packet.Ack generation held reports))
    × (replayed ≡ unwrap_or reports 0)
IsMessage (message.Part bytes) (sent.ImagePart generation index part) =
    (bytes.items ≡ part_bytes generation index part) × (0 < generation) × (generation < 2 ^ 32)
IsMessage (message.Byte port number byte) (sent.Released o) = o ≡ operation.Byte port number byte
IsMessage (message.Write write) (sent.Released o) = o ≡ operation.Write write.value
IsMessage (message.Written number) (sent.WriteDone done) = done ≡ number
IsMessage (message.Sector r) (sent.SectorRead address number bytes) = IsRead address number bytes r.value
IsMessage _ _ = ⊥
