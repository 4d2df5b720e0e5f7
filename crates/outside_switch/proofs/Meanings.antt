-- What a frame means, read off from what it says: one thing, nothing, or one of several.
use Rattle.std.proofs.Common.{ℕ, ◌≡◌, ◌<◌, ◌⊎◌, List, Some, refl, inl, inr}
use Rattle.std.specs.Prelude.{slice_get}
use Rattle.clone_state.specs.Parts.{PartMessage, message_bytes}
use Rattle.event_callbacks.specs.declared.operations.Operation.TheVariants as operation
use Rattle.guest_lockstep.specs.declared.reads.Reads.TheVariants.{Shared}
use Rattle.guest_lockstep.specs.declared.timed.Timed.{Timed}
use Rattle.host_frames.specs.Frames.{Said, Packet, Transfers, Tells}
use Rattle.host_frames.specs.Meaning as meaning
use Rattle.host_frames.specs.Meaning.{IsPart, Means, address_of_read}
use Rattle.host_frames.specs.declared.frame.Notice.TheVariants.{Begin, Gone, Join, Lost, Progress, Report, Stop, Suspect, Tick, Won}
use Rattle.host_frames.specs.declared.frame.Transfer.TheVariants.{Accepted, Byte, Failed, Get, Inspect, Inspected, Key, Sector, Write, Written}
use Rattle.host_law.specs.Frame as law
use Rattle.log_channel.specs.Packet.{IsPacket, packet_bytes}
use Rattle.log_channel.specs.declared.packet.Packet as channel
use Rattle.log_channel.specs.declared.packet.Packet.TheVariants.{Log, Ack}
use Rattle.pair_protocol.specs.World as message
use Rattle.std.specs.Prelude.{unwrap_or}

-- what a packet of the log carries
abbrev pub carried : channel.Packet → law.Frame
carried (Log generation index e) = law.Carries (message.LogEntry generation index e)
carried (Ack generation held replayed) = law.Carries (message.Acknowledgement generation held (unwrap_or replayed 0))

-- these bytes carry this, as a packet of the log or as a part of an image
abbrev pub IsCarried : List ℕ → law.Frame → Type 0
IsCarried bytes frame =
    ((p : channel.Packet) × IsPacket p × (bytes ≡ packet_bytes p) × (frame ≡ carried p))
    ⊎ ((m : PartMessage) × IsPart m × (bytes ≡ message_bytes m)
    × (frame ≡ law.Carries (message.ImagePart m.generation m.index m.payload)))

-- what it means to the host of a number
abbrev pub Only : ℕ → ℕ → Said → law.Frame → Type 0
Only drives host (Packet place bytes) frame = IsCarried bytes frame
Only drives host (Transfers (Byte port number byte)) frame =
    frame ≡ law.Carries (message.Released (operation.Byte port number byte))
Only drives host (Transfers (Key port index byte)) frame = frame ≡ law.Key port index byte
Only drives host (Transfers (Accepted port count)) frame = frame ≡ law.AreAccepted port count
Only drives host (Transfers (Write write)) frame = frame ≡ law.Carries (message.Released (operation.Write write))
Only drives host (Transfers (Written number)) frame = frame ≡ law.Carries (message.WriteDone number)
Only drives host (Transfers (Failed number)) frame = ⊥
Only drives host (Transfers (Get address)) frame = frame ≡ law.AsksSector address
Only drives host (Transfers (Sector read)) frame =
    frame ≡ law.Carries (message.SectorRead (address_of_read read) read.number read.bytes)
Only drives host (Transfers (Inspect number page)) frame = ⊥
Only drives host (Transfers (Inspected number count bytes)) frame = ⊥
Only drives host (Tells (Suspect generation)) frame = frame ≡ law.AsksArbiter host generation
Only drives host (Tells (Won generation)) frame = frame ≡ law.HasWon generation host
Only drives host (Tells (Lost generation)) frame = frame ≡ law.HasLost generation host
Only drives host (Tells (Gone place)) frame = ⊥
Only drives host (Tells (Begin generation place)) frame = frame ≡ law.MayBegin generation
Only drives host (Tells (Join generation place of count)) frame =
    (of ≡ drives) × ((list : List Timed) × (frame ≡ law.Recruits generation count Shared list))
Only drives host (Tells (Report report)) frame =
    (port : ℕ) × (keys : ℕ) × (slice_get report.covered port ≡ Some keys) × (0 < keys) × (frame ≡ law.TellsKeys port keys)
Only drives host (Tells (Progress place entries count)) frame = ⊥
Only drives host (Tells (Tick m n)) frame = ⊥
Only drives host (Tells Stop) frame = ⊥

pub only : (drives host : ℕ) (said : Said) (frame : law.Frame) → Means drives host said frame → Only drives host said frame
only drives host said frame (meaning.OfEntry place generation index e is) = inl (Log generation index e, is, refl, refl)
only drives host said frame (meaning.OfAcknowledgement place generation held replayed is) =
    inl (Ack generation held replayed, is, refl, refl)
only drives host said frame (meaning.OfPart place m is) = inr (m, is, refl, refl)
only drives host said frame (meaning.OfByte port number byte) = refl
only drives host said frame (meaning.OfKey port index byte) = refl
only drives host said frame (meaning.OfAccepted port count) = refl
only drives host said frame (meaning.OfCovered report port keys is some) = (port, keys, is, some, refl)
only drives host said frame (meaning.OfWrite write) = refl
only drives host said frame (meaning.OfWritten number) = refl
only drives host said frame (meaning.OfGet address) = refl
only drives host said frame (meaning.OfSector read) = refl
only drives host said frame (meaning.OfSuspect generation) = refl
only drives host said frame (meaning.OfWon generation) = refl
only drives host said frame (meaning.OfLost generation) = refl
only drives host said frame (meaning.OfBegin generation place) = refl
only drives host said frame (meaning.OfJoin generation place count list) = (refl, (list, refl))
