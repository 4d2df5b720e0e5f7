-- What a frame means in the law of processes, on the stream from or to the host of a node. Ticks, the end of a stream, a
-- stop, a refused write, progress, packets without bytes, early parts, what a machine has and the other fields of a report mean
-- nothing there.
use Rattle.std.specs.Prelude.{◌≡◌, ℕ, ◌<◌, ◌^◌, ◌==◌, Bool, true, false, if◌then◌else◌, unwrap_or, slice_get, slice_index, List, [], ◌∷◌, ◌++◌, Option, Some}
use Rattle.clone_state.specs.Parts.{PartMessage, message_bytes}
use Rattle.disk_dcdd.specs.declared.address.SectorAddress.{SectorAddress}
use Rattle.disk_dcdd.specs.declared.sector.SectorWrite.{SectorWrite}
use Rattle.event_callbacks.specs.declared.operations.Operation.TheVariants as operation
use Rattle.guest_lockstep.specs.declared.reads.Reads.TheVariants.{Shared}
use Rattle.guest_lockstep.specs.declared.timed.Timed.{Timed}
use Rattle.host_law.specs.Frame as law
use Rattle.log_channel.specs.Packet.{IsPacket, packet_bytes}
use Rattle.log_channel.specs.declared.packet.Packet.TheVariants.{Log, Ack}
use Rattle.log_entry.specs.declared.entry.Entry.{Entry}
use Rattle.pair_protocol.specs.Lawful.{Among}
use Rattle.pair_protocol.specs.World as message
use Rattle.shared_disk.specs.declared.disk.SectorRead.{SectorRead}
use Rattle.host_frames.specs.Frames.{IsBodyOf, Said, Packet, Transfers, Tells}
use Rattle.host_frames.specs.declared.frame.Notice.TheVariants.{Suspect, Won, Lost, Begin, Join, Report, Progress}
use Rattle.host_frames.specs.declared.frame.Report as host
use Rattle.host_frames.specs.declared.frame.Transfer.TheVariants.{Byte, Key, Accepted, Write, Written, Get, Sector, Inspected}

-- a part of an image that bytes spell
pub record IsPart (m : PartMessage) : Type 0 where
  pub some : 0 < m.generation
  pub generation : m.generation < 2 ^ 32
  pub index : m.index < 2 ^ 16

-- the sector that was read
abbrev pub address_of_read : SectorRead → SectorAddress
address_of_read r = record { drive = r.drive; track = r.track; sector = r.sector }

-- what frames mean that the host of this node sends or takes, in a pair whose machines have this many drives
pub data Means (drives node : ℕ) : Said → law.Frame → Type 0 where
  -- packets
  OfEntry : (place generation index : ℕ) (e : Entry) → IsPacket (Log generation index e) →
      Means drives node (Packet place (packet_bytes (Log generation index e))) (law.Carries (message.LogEntry generation index e))
  OfAcknowledgement : (place generation held : ℕ) (replayed : Option ℕ) → IsPacket (Ack generation held replayed) →
      Means drives node (Packet place (packet_bytes (Ack generation held replayed)))
      (law.Carries (message.Acknowledgement generation held (unwrap_or replayed 0)))
  OfPart : (place : ℕ) (m : PartMessage) → IsPart m →
      Means drives node (Packet place (message_bytes m)) (law.Carries (message.ImagePart m.generation m.index m.payload))
  -- terminals
  OfByte : (port number byte : ℕ) →
      Means drives node (Transfers (Byte port number byte)) (law.Carries (message.Released (operation.Byte port number byte)))
  OfKey : (port index byte : ℕ) → Means drives node (Transfers (Key port index byte)) (law.Key port index byte)
  OfAccepted : (port count : ℕ) → Means drives node (Transfers (Accepted port count)) (law.AreAccepted port count)
  OfCovered : (report : host.Report) (port keys : ℕ) → slice_get report.covered port ≡ Some keys → 0 < keys →
      Means drives node (Tells (Report report)) (law.TellsKeys port keys)
  -- the disk
  OfWrite : (write : SectorWrite) →
      Means drives node (Transfers (Write write)) (law.Carries (message.Released (operation.Write write)))
  OfWritten : (number : ℕ) → Means drives node (Transfers (Written number)) (law.Carries (message.WriteDone number))
  OfGet : (address : SectorAddress) → Means drives node (Transfers (Get address)) (law.AsksSector address)
  OfSector : (read : SectorRead) →
      Means drives node (Transfers (Sector read)) (law.Carries (message.SectorRead (address_of_read read) read.number read.bytes))
  -- the arbiter
  OfSuspect : (generation : ℕ) → Means drives node (Tells (Suspect generation)) (law.AsksArbiter node generation)
  OfWon : (generation : ℕ) → Means drives node (Tells (Won generation)) (law.HasWon generation node)
  OfLost : (generation : ℕ) → Means drives node (Tells (Lost generation)) (law.HasLost generation node)
  -- the next generation; no bytes spell the inputs that a copied machine has, and the log of a pair of processes always
  -- leaves sectors to the shared disk
  OfBegin : (generation place : ℕ) → Means drives node (Tells (Begin generation place)) (law.MayBegin generation)
  OfJoin : (generation place count : ℕ) (list : List Timed) →
      Means drives node (Tells (Join generation place drives count)) (law.Recruits generation count Shared list)

-- ---- what a process may take from a body that came to it

-- what it means is among the frames that were sent; of a host that is to join, with some list, for machines of these drives
abbrev pub IsTold : (drives node : ℕ) → Said → List law.Frame → Type 0
IsTold drives node (Tells (Join generation place of count)) frames =
    (of ≡ drives) × ((list : List Timed) × Among (law.Recruits generation count Shared list) frames)
IsTold drives node said frames = (frame : law.Frame) → Means drives node said frame → Among frame frames

-- the same of a body, if it is one of a frame
abbrev pub Brings : (drives node : ℕ) → List ℕ → List law.Frame → Type 0
Brings drives node body frames = (said : Said) → IsBodyOf said body → IsTold drives node said frames

-- ---- what a host sends with a frame

-- how many keys of a port are covered, unless none are
abbrev pub covered_at : ℕ → ℕ → List law.Frame
covered_at port keys = if keys == 0 then [] else law.TellsKeys port keys ∷ []

abbrev pub is_report : Said → Bool
is_report (Tells (Report report)) = true
is_report said = false

-- all that a frame of a host means, in order: that of a report, one thing, or nothing
pub data Speaks (drives node : ℕ) : Said → List law.Frame → Type 0 where
  OfReport : (report : host.Report) →
      Speaks drives node (Tells (Report report))
      (covered_at 0 (slice_index report.covered 0) ++ covered_at 1 (slice_index report.covered 1))
  OfOne : (said : Said) (frame : law.Frame) → is_report said ≡ false → Means drives node said frame →
      Speaks drives node said (frame ∷ [])
  -- a packet that says only that the host is there, and one that says how many parts have come
  OfBeat : (place : ℕ) → Speaks drives node (Packet place []) []
  OfParts : (place high low : ℕ) → Speaks drives node (Packet place (0x4A ∷ high ∷ low ∷ [])) []
  -- a part of an image that is sent early, before a generation has begun
  OfEarly : (place : ℕ) (part : List ℕ) → Speaks drives node (Packet place (0x45 ∷ part)) []
  OfProgress : (place entries count : ℕ) → Speaks drives node (Tells (Progress place entries count)) []
  -- what its machine has
  OfInspected : (number count : ℕ) (bytes : List ℕ) → Speaks drives node (Transfers (Inspected number count bytes)) []
