-- A sector: where its writes go, and what of it is shown, read and filled in while it is under the head.
use Rattle.std.specs.Prelude.{ℕ, ◌+◌, ◌*◌, ◌<◌, Bool, false, true, not, ◌==◌, nat_lt, if◌then◌else◌, ◌&&◌, ◌||◌, Option, Some, None, is_some, IfSome, List, slice_index, slice_set}
use Rattle.std.specs.Option.{option_map_or}
use Rattle.disk_dcdd.specs.declared.sector.TheConstants.{SECTOR_BYTES}
use Rattle.disk_dcdd.specs.declared.sector.CurrentSector.{CurrentSector}
use Rattle.disk_dcdd.specs.declared.sector.Place.{Place}
use Rattle.disk_dcdd.specs.declared.sector.SectorWrite.{SectorWrite}

-- the index of byte 137, a sector's last
abbrev pub last_byte : ℕ
last_byte = 136

-- what a port reads when it has nothing to show
abbrev pub nothing : ℕ
nothing = 0xFF

-- IN 09h bits 7 and 6 are 1, bits 5 to 1 number the sector, and bit 0 is 0 while one is there
abbrev pub position_at : ℕ → ℕ
position_at sector = 0xC0 + 2 * sector

-- where a write goes
abbrev pub place_of : SectorWrite → Place
place_of w = record { number = w.number; drive = w.drive; track = w.track; sector = w.sector }

-- the write goes to this sector of this track of this drive
abbrev pub is_at : ℕ → ℕ → ℕ → Place → Bool
is_at drive track sector place = place.drive == drive && place.track == track && place.sector == sector

-- a sector that has just come under the head: nothing of it is read, shown or filled in
abbrev pub arrived : ℕ → List ℕ → CurrentSector
arrived sector bytes = record { sector = sector; bytes = bytes; read = 0; shown = false; filled = None }

-- the sector is being written
abbrev pub is_written : CurrentSector → Bool
is_written s = is_some s.filled

-- a byte is left to read and, while the sector is being written, a byte to fill in
pub record IsUnfinished (s : CurrentSector) : Type 0 where
  pub read : s.read < SECTOR_BYTES
  pub filled : IfSome s.filled (λ filled. filled < SECTOR_BYTES)

-- the sector is not being written, and fewer than 137 of its bytes were read
abbrev pub may_read : CurrentSector → Bool
may_read s = not (is_written s) && nat_lt s.read SECTOR_BYTES

-- NRDA, new read data available
abbrev pub has_new_data : Option CurrentSector → Bool
has_new_data None = false
has_new_data (Some s) = may_read s

-- fewer than 137 bytes are filled in, and byte 137 waits until there is room for the write
abbrev pub may_fill : Bool → ℕ → Bool
may_fill has_room filled = nat_lt filled SECTOR_BYTES && (has_room || not (filled == last_byte))

-- ENWD, enter new write data: the sector is being written, and its next byte may be filled in
abbrev pub enters_new_data : Bool → Option CurrentSector → Bool
enters_new_data has_room None = false
enters_new_data has_room (Some s) = option_map_or (may_fill has_room) s.filled false

-- IN 09h shows the sector the first time, and while it is being written
abbrev pub is_shown_now : CurrentSector → Bool
is_shown_now s = is_written s || not s.shown

-- the position that IN 09h returns
abbrev pub shown_position : Option CurrentSector → ℕ
shown_position None = nothing
shown_position (Some s) = if is_shown_now s then position_at s.sector else nothing

-- the sector after IN 09h; one that is not shown leaves
abbrev pub after_showing : Option CurrentSector → Option CurrentSector
after_showing None = None
after_showing (Some s) = if is_shown_now s then Some (record s { shown = true }) else None

-- the byte that IN 0Ah returns: the next one if new read data is available
abbrev pub next_byte : Option CurrentSector → ℕ
next_byte None = nothing
next_byte (Some s) = if may_read s then slice_index s.bytes s.read else nothing

-- one more byte is read; after byte 137 the sector leaves
abbrev pub with_byte_read : CurrentSector → Option CurrentSector
with_byte_read s = if s.read == last_byte then None else Some (record s { read = s.read + 1 })

-- the sector after IN 0Ah
abbrev pub after_reading : Option CurrentSector → Option CurrentSector
after_reading None = None
after_reading (Some s) = if may_read s then with_byte_read s else Some s

-- OUT 0Ah puts the byte at the next place, after this many filled in; the places after it keep the old bytes
abbrev pub with_byte_filled : CurrentSector → ℕ → ℕ → CurrentSector
with_byte_filled s filled byte = record s { bytes = slice_set s.bytes filled byte; filled = Some (filled + 1) }
