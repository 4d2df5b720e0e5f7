-- The drive table: what the ports of the controller show, and what each access does.
use Rattle.std.specs.Prelude.{ℕ, ◌+◌, ◌^◌, Bool, true, false, ◌==◌, nat_lt, if◌then◌else◌, ◌&&◌, Option, Some, None, is_some, option_and_then, List, [], ◌∷◌, ◌++◌, length, slice_index_or, slice_set, replicate}
use Rattle.std.specs.Option.{option_map_or}
use Rattle.disk_dcdd.specs.declared.controller.TheConstants.{DRIVES, OUTSTANDING}
use Rattle.disk_dcdd.specs.declared.drive.Drive.{Drive}
use Rattle.disk_dcdd.specs.declared.sector.CurrentSector.{CurrentSector}
use Rattle.disk_dcdd.specs.declared.sector.Place.{Place}
use Rattle.disk_dcdd.specs.declared.sector.SectorWrite.{SectorWrite}
use Rattle.disk_dcdd.specs.Sector.{last_byte, nothing, place_of, has_new_data, enters_new_data, may_fill, shown_position, after_showing, next_byte, after_reading, with_byte_filled}
use Rattle.disk_dcdd.specs.Command.{drive_at_boot, selected_by, commanded_drive, commanded_interrupts, commanded_sector}

-- the controller: how many drives are attached, which is selected, the track and the head of each, the interrupt
-- enable, the sector under the head, the outstanding writes in order of number, and how many writes were ever issued
pub record Drives : Type 0 where
  pub attached : ℕ
  pub selected : Option ℕ
  pub drives : List Drive
  pub interrupts : Bool
  pub current : Option CurrentSector
  pub outstanding : List Place
  pub issued : ℕ

-- a controller of this many drives, at boot
abbrev pub at_boot : ℕ → Drives
at_boot attached = record {
  attached = attached;
  selected = None;
  drives = replicate DRIVES drive_at_boot;
  interrupts = false;
  current = None;
  outstanding = [];
  issued = 0;
}

-- the drive of this number
abbrev pub drive_of : Drives → ℕ → Drive
drive_of d drive = slice_index_or d.drives drive drive_at_boot

-- there is room for one more outstanding write
abbrev pub has_room : Drives → Bool
has_room d = nat_lt (length d.outstanding) OUTSTANDING

-- OUT 08h selects a drive or none, and the sector leaves
abbrev pub after_select : Drives → ℕ → Drives
after_select d byte = record d { selected = selected_by byte d.attached; current = None }

-- status bit 0, ENWD, enter new write data
abbrev pub enwd : ℕ
enwd = 0

-- status bit 2, head status
abbrev pub head_status : ℕ
head_status = 2

-- status bit 5, interrupts enabled
abbrev pub interrupts_enabled : ℕ
interrupts_enabled = 5

-- status bit 6, track 0
abbrev pub track_zero : ℕ
track_zero = 6

-- status bit 7, NRDA, new read data available
abbrev pub nrda : ℕ
nrda = 7

-- a status bit is 0 while its condition holds
abbrev pub low : ℕ → Bool → ℕ
low bit true = 0
low bit false = 2 ^ bit

-- IN 08h of this drive; bit 1 (the head may move) is 0, and so are bits 3 and 4
abbrev pub status_with : Drives → ℕ → ℕ
status_with d drive =
    low enwd (enters_new_data (has_room d) d.current)
    + low head_status (drive_of d drive).loaded
    + low interrupts_enabled d.interrupts
    + low track_zero ((drive_of d drive).track == 0)
    + low nrda (has_new_data d.current)

-- IN 08h of the selected drive
abbrev pub status_of : Drives → ℕ
status_of d = option_map_or (status_with d) d.selected nothing

-- OUT 09h on this drive, the interrupt enable and the sector under the head
abbrev pub commanded : Drives → ℕ → ℕ → Drives
commanded d command drive = record d {
  drives = slice_set d.drives drive (commanded_drive command (drive_of d drive));
  interrupts = commanded_interrupts command d.interrupts;
  current = commanded_sector command d.current;
}

-- OUT 09h commands the selected drive, and changes nothing if none is selected
abbrev pub after_command : Drives → ℕ → Drives
after_command d command = option_map_or (commanded d command) d.selected d

-- IN 09h returns a position; with no drive selected there is no sector
abbrev pub position_of : Drives → ℕ
position_of d = shown_position d.current

-- IN 09h leaves the sector shown, or no sector
abbrev pub after_position : Drives → Drives
after_position d = record d { current = after_showing d.current }

-- IN 0Ah returns a byte
abbrev pub byte_of : Drives → ℕ
byte_of d = next_byte d.current

-- IN 0Ah leaves one byte fewer to read
abbrev pub after_read : Drives → Drives
after_read d = record d { current = after_reading d.current }

-- the write of this sector on this drive, with the next number
abbrev pub write_of : Drives → CurrentSector → ℕ → SectorWrite
write_of d s drive = record {
  number = d.issued + 1;
  drive = drive;
  track = (drive_of d drive).track;
  sector = s.sector;
  bytes = s.bytes;
}

-- OUT 0Ah with this many bytes of the sector filled in: byte 137 issues the write if there is room for one
abbrev pub issued_at : Drives → ℕ → ℕ → CurrentSector → ℕ → Option SectorWrite
issued_at d byte drive s filled =
    if filled == last_byte && has_room d then Some (write_of d (with_byte_filled s filled byte) drive) else None

-- the write that OUT 0Ah issues, if any
abbrev pub issued_by : Drives → ℕ → Option SectorWrite
issued_by d byte =
    option_and_then (λ drive. option_and_then (λ s. option_and_then (issued_at d byte drive s) s.filled) d.current)
    d.selected

-- a byte is kept if new write data may be entered, otherwise lost
abbrev pub kept_at : Drives → ℕ → CurrentSector → ℕ → Drives
kept_at d byte s filled =
    if may_fill (has_room d) filled then record d { current = Some (with_byte_filled s filled byte) } else d

-- OUT 0Ah of a byte that issues no write
abbrev pub after_keep : Drives → ℕ → Drives
after_keep d byte = option_map_or (λ s. option_map_or (kept_at d byte s) s.filled d) d.current d

-- a write is issued, and its sector leaves
abbrev pub after_issue : Drives → SectorWrite → Drives
after_issue d w = record d { current = None; outstanding = d.outstanding ++ place_of w ∷ []; issued = w.number }

-- OUT 0Ah of any byte
abbrev pub after_data : Drives → ℕ → Drives
after_data d byte = option_map_or (after_issue d) (issued_by d byte) (after_keep d byte)

-- the controller asks for an interrupt if interrupts are enabled and a sector is under the head
abbrev pub line_of : Drives → Bool
line_of d = d.interrupts && is_some d.current
