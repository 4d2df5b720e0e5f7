-- What follows a tag, in the order of its bytes, and the frame that a body is read as.
use Rattle.std.specs.Prelude.{ℕ, ◌==◌, nat_lt, Bool, if◌then◌else◌, List, [], ◌∷◌, length, take, drop, slice_index, Option, Some, None}
use Rattle.std.specs.Int.{w32, from_be_bytes}
use Rattle.byteorder.specs.Endian.{big_bytes}
use Rattle.clone_state.specs.Codec.{Codec, both, by, bytes, number, one, only, read_all}
use Rattle.disk_dcdd.specs.declared.address.SectorAddress.{SectorAddress}
use Rattle.disk_dcdd.specs.declared.sector.SectorWrite.{SectorWrite}
use Rattle.log_entry.specs.Numbers.{◌>>=◌, generation_from}
use Rattle.pair_events.specs.declared.reply.Role.{Role}
use Rattle.pair_events.specs.declared.reply.Role.TheVariants.{Primary, Backup, Joining, Draining, Alone, Halted}
use Rattle.shared_disk.specs.declared.disk.SectorRead.{SectorRead}
use Rattle.host_frames.specs.Frames.{Said, Packet, Transfers, Tells, flag_code, is_drives, is_port, is_standing, role_code}
use Rattle.host_frames.specs.declared.frame.Notice.{Notice}
use Rattle.host_frames.specs.declared.frame.Notice.TheVariants.{Suspect, Won, Lost, Gone, Begin, Join, Report, Progress, Tick, Stop}
use Rattle.host_frames.specs.declared.frame.Report as host
use Rattle.host_frames.specs.declared.frame.Transfer.{Transfer}
use Rattle.host_frames.specs.declared.frame.Transfer.TheVariants.{Byte, Key, Accepted, Write, Written, Failed, Get, Sector, Inspect, Inspected}

-- ---- small values

unfoldable pub port : Codec ℕ
port = only one is_port

unfoldable pub drives : Codec ℕ
drives = only one is_drives

unfoldable pub generation : Codec ℕ
generation = record { spell = big_bytes 4; read = generation_from }

-- four bytes, highest first
abbrev pub word_at : List ℕ → Option (ℕ × List ℕ)
word_at xs = if nat_lt (length xs) 4 then None else Some (from_be_bytes w32 (take 4 xs), drop 4 xs)

unfoldable pub word : Codec ℕ
word = record { spell = big_bytes 4; read = word_at }

abbrev pub role_of : ℕ → Option Role
role_of code =
    if code == 1 then Some Primary
    else if code == 2 then Some Backup
    else if code == 3 then Some Joining
    else if code == 4 then Some Draining
    else if code == 5 then Some Alone
    else if code == 6 then Some Halted
    else None

abbrev pub is_role : ℕ → Bool
is_role code = nat_lt code 7

unfoldable pub role : Codec (Option Role)
role = by (only one is_role) role_code role_of

unfoldable pub flag : Codec Bool
flag = by (only one (λ code. nat_lt code 2)) flag_code (λ code. code == 1)

unfoldable pub address : Codec SectorAddress
address = by (both one (both one one)) (λ a. (a.drive, (a.track, a.sector)))
    (λ r. record { drive = r.0; track = r.1.0; sector = r.1.1 })

unfoldable pub two_numbers : Codec (List ℕ)
two_numbers = by (both number number) (λ xs. (slice_index xs 0, slice_index xs 1)) (λ r. r.0 ∷ r.1 ∷ [])

-- ---- fields that some notices share

unfoldable pub key : Codec (ℕ × (ℕ × ℕ))
key = both port (both one number)

unfoldable pub port_count : Codec (ℕ × ℕ)
port_count = both port number

unfoldable pub content : Codec (SectorAddress × (ℕ × List ℕ))
content = both address (both number (bytes 137))

-- a page, and the number by which a machine is asked for
unfoldable pub inspect : Codec (ℕ × ℕ)
inspect = both one number

-- what a machine has, which was asked for by a number, when it has made so many steps
unfoldable pub sight : Codec (ℕ × (ℕ × List ℕ))
sight = both number (both number (bytes 526))

unfoldable pub begin : Codec (ℕ × ℕ)
begin = both generation one

unfoldable pub join : Codec (ℕ × (ℕ × (ℕ × ℕ)))
join = both generation (both one (both drives number))

unfoldable pub standing : Codec (ℕ × Option Role)
standing = only (both word role) (λ r. is_standing r.0 r.1)

unfoldable pub measures : Codec (ℕ × (ℕ × (ℕ × ℕ)))
measures = both number (both number (both number number))

unfoldable pub report : Codec ((ℕ × Option Role) × (Bool × ((ℕ × (ℕ × (ℕ × ℕ))) × (List ℕ × List ℕ))))
report = both standing (both flag (both measures (both two_numbers two_numbers)))

unfoldable pub tick : Codec (ℕ × ℕ)
tick = both number number

unfoldable pub progress : Codec (ℕ × (ℕ × ℕ))
progress = both one (both number number)

-- ---- bodies

-- what has these fields, using all bytes
abbrev pub kind : {A B : Type 0} → Codec A → (A → B) → List ℕ → Option B
kind c make xs = read_all c xs >>= λ x. Some (make x)

-- a notice without fields
abbrev pub only_tag : Notice → List ℕ → Option Notice
only_tag notice xs = if length xs == 0 then Some notice else None

abbrev pub write_with : SectorAddress × (ℕ × List ℕ) → SectorWrite
write_with r = record { number = r.1.0; drive = r.0.drive; track = r.0.track; sector = r.0.sector; bytes = r.1.1 }

abbrev pub read_with : SectorAddress × (ℕ × List ℕ) → SectorRead
read_with r = record { number = r.1.0; drive = r.0.drive; track = r.0.track; sector = r.0.sector; bytes = r.1.1 }

abbrev pub report_with : (ℕ × Option Role) × (Bool × ((ℕ × (ℕ × (ℕ × ℕ))) × (List ℕ × List ℕ))) → host.Report
report_with r = record {
  generation = r.0.0;
  role = r.0.1;
  is_idle = r.1.0;
  count = r.1.1.0.0;
  lag = r.1.1.0.1.0;
  writes = r.1.1.0.1.1.0;
  tick = r.1.1.0.1.1.1;
  taken = r.1.1.1.0;
  covered = r.1.1.1.1;
}

unfoldable pub transfer_at : ℕ → List ℕ → Option Transfer
transfer_at tag xs =
    if tag == 0x42 then kind key (λ r. Byte r.0 r.1.1 r.1.0) xs
    else if tag == 0x4B then kind key (λ r. Key r.0 r.1.1 r.1.0) xs
    else if tag == 0x41 then kind port_count (λ r. Accepted r.0 r.1) xs
    else if tag == 0x57 then kind content (λ r. Write (write_with r)) xs
    else if tag == 0x77 then kind number (λ n. Written n) xs
    else if tag == 0x66 then kind number (λ n. Failed n) xs
    else if tag == 0x47 then kind address (λ a. Get a) xs
    else if tag == 0x53 then kind content (λ r. Sector (read_with r)) xs
    else if tag == 0x49 then kind inspect (λ r. Inspect r.1 r.0) xs
    else if tag == 0x56 then kind sight (λ r. Inspected r.0 r.1.0 r.1.1) xs
    else None

unfoldable pub notice_at : ℕ → List ℕ → Option Notice
notice_at tag xs =
    if tag == 0x55 then kind generation (λ n. Suspect n) xs
    else if tag == 0x4F then kind generation (λ n. Won n) xs
    else if tag == 0x4C then kind generation (λ n. Lost n) xs
    else if tag == 0x58 then kind one (λ n. Gone n) xs
    else if tag == 0x4E then kind begin (λ r. Begin r.0 r.1) xs
    else if tag == 0x4A then kind join (λ r. Join r.0 r.1.0 r.1.1.0 r.1.1.1) xs
    else if tag == 0x45 then kind report (λ r. Report (report_with r)) xs
    else if tag == 0x52 then kind progress (λ r. Progress r.0 r.1.0 r.1.1) xs
    else if tag == 0x54 then kind tick (λ r. Tick r.0 r.1) xs
    else if tag == 0x5A then only_tag Stop xs
    else None

-- a packet whose frame is not too long
abbrev pub packet_at : List ℕ → Option Said
packet_at [] = None
packet_at (host ∷ xs) = if nat_lt (length xs) 4091 then Some (Packet host xs) else None

-- no tag is that of a notice and of a transfer
abbrev pub either : Option Notice → Option Transfer → Option Said
either (Some notice) transfer = Some (Tells notice)
either None (Some transfer) = Some (Transfers transfer)
either None None = None

-- the frame that a body is read as
unfoldable pub frame_at : List ℕ → Option Said
frame_at [] = None
frame_at (tag ∷ xs) = if tag == 0x50 then packet_at xs else either (notice_at tag xs) (transfer_at tag xs)
