-- A packet of the log or of its acknowledgement: its one spelling, the values that it may have, and what bytes are read
-- as.
use Rattle.std.specs.Prelude.{ℕ, ◌-◌, ◌^◌, ◌<◌, ◌≤◌, List, [], ◌∷◌, ◌++◌, length, Option, Some, None, IfSome, nat_lt, ◌==◌, if◌then◌else◌}
use Rattle.byteorder.specs.Endian.{big_bytes}
use Rattle.log_entry.specs.Numbers.{◌>>=◌, generation_from, number_from}
use Rattle.log_entry.specs.Spelling.{spelling, IsEntry, entry_at}
use Rattle.log_channel.specs.declared.packet.Packet.{Packet}
use Rattle.log_channel.specs.declared.packet.Packet.TheVariants.{Log, Ack}

-- an acknowledgement has one tag without the number of replayed entries, and another one with it
abbrev pub ack_bytes : ℕ → ℕ → Option ℕ → List ℕ
ack_bytes generation held None = 0x41 ∷ big_bytes 4 generation ++ big_bytes 8 held
ack_bytes generation held (Some replayed) =
    0x42 ∷ big_bytes 4 generation ++ (big_bytes 8 held ++ big_bytes 8 replayed)

-- tag, generation in four bytes, and an index with its entry or how many entries are held and replayed
abbrev pub packet_bytes : Packet → List ℕ
packet_bytes (Log generation index entry) = 0x4C ∷ big_bytes 4 generation ++ (big_bytes 8 index ++ spelling entry)
packet_bytes (Ack generation held replayed) = ack_bytes generation held replayed

-- the values that a packet may have; no more entries are replayed than are held
abbrev pub IsPacket : Packet → Type 0
IsPacket (Log generation index entry) =
    (0 < generation) × (generation < 2 ^ 32) × (index < 2 ^ 62 - 1) × IsEntry entry
IsPacket (Ack generation held replayed) =
    (0 < generation) × (generation < 2 ^ 32) × (held < 2 ^ 62) × IfSome replayed (λ number. number ≤ held)

-- ---- reading, from left to right

-- each kind by what follows its tag and its generation; the greatest number is no index
unfoldable pub log_at : ℕ → List ℕ → Option Packet
log_at generation bytes = number_from bytes >>= λ index.
    if index.0 == 2 ^ 62 - 1 then None else entry_at index.1 >>= λ entry. Some (Log generation index.0 entry)

-- a packet, if no bytes follow it
abbrev pub whole : Packet → List ℕ → Option Packet
whole packet rest = if length rest == 0 then Some packet else None

unfoldable pub ack_at : ℕ → List ℕ → Option Packet
ack_at generation bytes = number_from bytes >>= λ held. whole (Ack generation held.0 None) held.1

-- more entries replayed than held are not an acknowledgement
unfoldable pub report_at : ℕ → List ℕ → Option Packet
report_at generation bytes = number_from bytes >>= λ held. number_from held.1 >>= λ replayed.
    if nat_lt held.0 replayed.0 then None else whole (Ack generation held.0 (Some replayed.0)) replayed.1

-- the packet that the bytes spell, using all of them
unfoldable pub packet_at : List ℕ → Option Packet
packet_at [] = None
packet_at (tag ∷ bytes) = generation_from bytes >>= λ generation.
    if tag == 0x4C then log_at generation.0 generation.1
    else if tag == 0x41 then ack_at generation.0 generation.1
    else if tag == 0x42 then report_at generation.0 generation.1
    else None
