-- What a message brings, and what is sent.
use Rattle.std.specs.Prelude.{◌≡◌, ℕ, Option, Some, None, List, [], ◌∷◌, ◌++◌, length, slice_get, Result, Ok, Err}
use Rattle.std.specs.Option.{option_and_then}
use Rattle.disk_dcdd.specs.declared.sector.SectorWrite.{SectorWrite}
use Rattle.event_callbacks.specs.declared.operations.Operation.{Operation}
use Rattle.event_callbacks.specs.declared.operations.Operation.TheVariants as operation
use Rattle.i8080_words.specs.declared.refusal.Fault.{Fault}
use Rattle.i8080_words.specs.declared.refusal.Fault.TheVariants.{OutOfMemory}
use Rattle.pair_events.specs.declared.reply.Reply.{Reply}
use Rattle.pair_events.specs.declared.reply.Reply.TheVariants as reply
use Rattle.shared_disk.specs.declared.disk.SectorRead.{SectorRead}
use Rattle.ft_world.specs.declared.message.Message.{Message}
use Rattle.ft_world.specs.declared.message.Message.TheVariants as message

-- the packet of a log entry, and of an acknowledgement
abbrev pub log_of : Message → Option (List ℕ)
log_of (message.Log packet) = Some packet.items
log_of _ = None

abbrev pub ack_of : Message → Option (List ℕ)
ack_of (message.Ack packet) = Some packet.items
ack_of _ = None

-- the part of an image
abbrev pub part_of : Message → Option (List ℕ)
part_of (message.Part bytes) = Some bytes.items
part_of _ = None

-- the byte that a message brings to its terminal, and the write that it brings to the disk
abbrev pub byte_of : Message → Option (ℕ × ℕ × ℕ)
byte_of (message.Byte port number byte) = Some (port, number, byte)
byte_of _ = None

abbrev pub write_of : Message → Option SectorWrite
write_of (message.Write write) = Some write.value
write_of _ = None

-- the write that is done, and the sector that was read
abbrev pub written_of : Message → Option ℕ
written_of (message.Written number) = Some number
written_of _ = None

abbrev pub sector_of : Message → Option SectorRead
sector_of (message.Sector read) = Some read.value
sector_of _ = None

-- what the message of a number brings
abbrev pub brought : {A : Type 0} → (Message → Option A) → List Message → ℕ → Option A
brought kind messages m = option_and_then kind (slice_get messages m)

-- the operation that a message releases to its device
abbrev pub operation_of : Message → Option Operation
operation_of (message.Byte port number byte) = Some (operation.Byte port number byte)
operation_of (message.Write write) = Some (operation.Write write.value)
operation_of _ = None

-- a message is sent, and its number is the reply
abbrev pub Says : List Message → Message → Result Reply Fault → List Message → Type 0
Says old m (Ok r) new = (r ≡ reply.Message (length old)) × (new ≡ old ++ m ∷ [])
Says old m (Err fault) new = (fault ≡ OutOfMemory) × (new ≡ old)

-- an operation is released by a message, whose number is the reply
abbrev pub Releases : List Message → Operation → Result Reply Fault → List Message → Type 0
Releases old o (Ok r) new = (m : Message) × (operation_of m ≡ Some o) × Says old m (Ok r) new
Releases old o (Err fault) new = (fault ≡ OutOfMemory) × (new ≡ old)
