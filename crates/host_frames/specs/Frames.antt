-- What a frame may say, and its body: a tag, and what follows it. A frame is `F`, `R`, the length of its body in two bytes
-- and its body.
use Rattle.std.specs.Prelude.{◌≡◌, ℕ, ◌/◌, ◌%◌, ◌^◌, ◌==◌, nat_lt, Bool, true, ◌&&◌, if◌then◌else◌, List, [], ◌∷◌, ◌++◌, length, slice_index, Option, Some, None}
use Rattle.byteorder.specs.Endian.{big_bytes}
use Rattle.i8080_words.specs.declared.refusal.Fault.{Fault}
use Rattle.i8080_words.specs.declared.refusal.Fault.TheVariants.{Malformed, OutOfMemory}
use Rattle.pair_events.specs.declared.reply.Role.{Role}
use Rattle.pair_events.specs.declared.reply.Role.TheVariants.{Primary, Backup, Joining, Draining, Alone, Halted}
use Rattle.host_frames.specs.declared.frame.Frame.{Frame}
use Rattle.host_frames.specs.declared.frame.Frame.TheVariants as frame
use Rattle.host_frames.specs.declared.frame.Notice.{Notice}
use Rattle.host_frames.specs.declared.frame.Notice.TheVariants.{Suspect, Won, Lost, Gone, Begin, Join, Report, Progress, Tick, Stop}
use Rattle.host_frames.specs.declared.frame.Report as host
use Rattle.host_frames.specs.declared.frame.Transfer.{Transfer}
use Rattle.host_frames.specs.declared.frame.Transfer.TheVariants.{Byte, Key, Accepted, Write, Written, Failed, Get, Sector, Inspect, Inspected}

-- what a frame says, wherever the bytes of its packet lie
pub data Said : Type 0 where
  Packet : (host : ℕ) (bytes : List ℕ) → Said
  Transfers : (transfer : Transfer) → Said
  Tells : (notice : Notice) → Said

abbrev pub said_by : Frame → Said
said_by (frame.Packet host bytes) = Packet host bytes.now
said_by (frame.Transfer transfer) = Transfers transfer
said_by (frame.Notice notice) = Tells notice

-- ---- the bodies

-- 0 is a spare
abbrev pub role_code : Option Role → ℕ
role_code None = 0
role_code (Some Primary) = 1
role_code (Some Backup) = 2
role_code (Some Joining) = 3
role_code (Some Draining) = 4
role_code (Some Alone) = 5
role_code (Some Halted) = 6

abbrev pub flag_code : Bool → ℕ
flag_code flag = if flag then 1 else 0

-- a number for each port
abbrev pub of_ports : List ℕ → List ℕ
of_ports numbers = big_bytes 8 (slice_index numbers 0) ++ big_bytes 8 (slice_index numbers 1)

-- how far the machine of a host is, and what waits
abbrev pub measures_of : host.Report → List ℕ
measures_of r = big_bytes 8 r.count ++ (big_bytes 8 r.lag ++ (big_bytes 8 r.writes ++ big_bytes 8 r.tick))

abbrev pub transfer_body : Transfer → List ℕ
transfer_body (Byte port number byte) = 0x42 ∷ port ∷ byte ∷ big_bytes 8 number
transfer_body (Key port index byte) = 0x4B ∷ port ∷ byte ∷ big_bytes 8 index
transfer_body (Accepted port count) = 0x41 ∷ port ∷ big_bytes 8 count
transfer_body (Write w) = 0x57 ∷ w.drive ∷ w.track ∷ w.sector ∷ big_bytes 8 w.number ++ w.bytes
transfer_body (Written number) = 0x77 ∷ big_bytes 8 number
transfer_body (Failed number) = 0x66 ∷ big_bytes 8 number
transfer_body (Get a) = 0x47 ∷ a.drive ∷ a.track ∷ a.sector ∷ []
transfer_body (Sector r) = 0x53 ∷ r.drive ∷ r.track ∷ r.sector ∷ big_bytes 8 r.number ++ r.bytes
transfer_body (Inspect number page) = 0x49 ∷ page ∷ big_bytes 8 number
transfer_body (Inspected number count bytes) = 0x56 ∷ big_bytes 8 number ++ (big_bytes 8 count ++ bytes)

abbrev pub notice_body : Notice → List ℕ
notice_body (Suspect generation) = 0x55 ∷ big_bytes 4 generation
notice_body (Won generation) = 0x4F ∷ big_bytes 4 generation
notice_body (Lost generation) = 0x4C ∷ big_bytes 4 generation
notice_body (Gone host) = 0x58 ∷ host ∷ []
notice_body (Begin generation host) = 0x4E ∷ big_bytes 4 generation ++ (host ∷ [])
notice_body (Join generation host drives count) =
    0x4A ∷ big_bytes 4 generation ++ (host ∷ drives ∷ big_bytes 8 count)
notice_body (Report r) =
    0x45 ∷ big_bytes 4 r.generation
    ++ (role_code r.role ∷ flag_code r.is_idle ∷ measures_of r ++ (of_ports r.taken ++ of_ports r.covered))
notice_body (Progress host entries count) = 0x52 ∷ host ∷ big_bytes 8 entries ++ big_bytes 8 count
notice_body (Tick number speed) = 0x54 ∷ big_bytes 8 number ++ big_bytes 8 speed
notice_body Stop = 0x5A ∷ []

abbrev pub body_of : Said → List ℕ
body_of (Packet host bytes) = 0x50 ∷ host ∷ bytes
body_of (Transfers transfer) = transfer_body transfer
body_of (Tells notice) = notice_body notice

-- a body on a stream
abbrev pub framed : List ℕ → List ℕ
framed body = 0x46 ∷ 0x52 ∷ length body / 256 ∷ length body % 256 ∷ body

abbrev pub spelling : Said → List ℕ
spelling f = framed (body_of f)

-- ---- the values that a frame may have

abbrev pub is_number : ℕ → Bool
is_number n = nat_lt n (2 ^ 62)

abbrev pub is_port : ℕ → Bool
is_port port = nat_lt port 2

abbrev pub is_generation : ℕ → Bool
is_generation generation = nat_lt 0 generation && nat_lt generation (2 ^ 32)

abbrev pub is_drives : ℕ → Bool
is_drives drives = nat_lt 0 drives && nat_lt drives 5

-- a spare is of no generation
abbrev pub is_standing : ℕ → Option Role → Bool
is_standing generation None = generation == 0
is_standing generation (Some role) = is_generation generation

abbrev pub are_numbers : List ℕ → Bool
are_numbers numbers = length numbers == 2 && (is_number (slice_index numbers 0) && is_number (slice_index numbers 1))

abbrev pub are_measures : host.Report → Bool
are_measures r = is_number r.count && (is_number r.lag && (is_number r.writes && is_number r.tick))

abbrev pub is_transfer : Transfer → Bool
is_transfer (Byte port number byte) = is_port port && is_number number
is_transfer (Key port index byte) = is_port port && is_number index
is_transfer (Accepted port count) = is_port port && is_number count
is_transfer (Write w) = length w.bytes == 137 && is_number w.number
is_transfer (Written number) = is_number number
is_transfer (Failed number) = is_number number
is_transfer (Get a) = true
is_transfer (Sector r) = length r.bytes == 137 && is_number r.number
is_transfer (Inspect number page) = is_number number
is_transfer (Inspected number count bytes) = length bytes == 526 && (is_number number && is_number count)

abbrev pub is_notice : Notice → Bool
is_notice (Suspect generation) = is_generation generation
is_notice (Won generation) = is_generation generation
is_notice (Lost generation) = is_generation generation
is_notice (Gone host) = true
is_notice (Begin generation host) = is_generation generation
is_notice (Join generation host drives count) = is_generation generation && (is_drives drives && is_number count)
is_notice (Report r) =
    is_standing r.generation r.role
    && (are_measures r && (are_numbers r.taken && are_numbers r.covered))
is_notice (Progress host entries count) = is_number entries && is_number count
is_notice (Tick number speed) = is_number number && is_number speed
is_notice Stop = true

-- a body has at most 4,092 bytes
abbrev pub is_frame : Said → Bool
is_frame (Packet host bytes) = nat_lt (length bytes) 4091
is_frame (Transfers transfer) = is_transfer transfer
is_frame (Tells notice) = is_notice notice

-- these bytes are the body of this frame
pub record IsBodyOf (f : Said) (body : List ℕ) : Type 0 where
  pub fits : is_frame f ≡ true
  pub same : body ≡ body_of f

-- these bytes are this frame on a stream
pub record IsSpelling (f : Said) (bytes : List ℕ) : Type 0 where
  pub fits : is_frame f ≡ true
  pub same : bytes ≡ spelling f

-- why a frame is not spelled: it has no spelling, or there is no memory
abbrev pub refusal_of : Said → Fault
refusal_of f = if is_frame f then OutOfMemory else Malformed
