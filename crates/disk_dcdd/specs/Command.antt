-- The bits of OUT 08h and OUT 09h, and what they do to a drive, the sector under its head and the interrupt enable.
use Rattle.std.specs.Prelude.{ℕ, ◌+◌, ◌-◌, ◌/◌, ◌%◌, ◌^◌, Bool, true, false, not, ◌==◌, nat_lt, min, if◌then◌else◌, ◌&&◌, ◌||◌, Option, Some, None}
use Rattle.disk_dcdd.specs.declared.drive.TheConstants.{TRACKS}
use Rattle.disk_dcdd.specs.declared.drive.Drive.{Drive}
use Rattle.disk_dcdd.specs.declared.sector.CurrentSector.{CurrentSector}
use Rattle.disk_dcdd.specs.Sector.{is_written}

-- at boot a drive's head is at track 0 and unloaded
abbrev pub drive_at_boot : Drive
drive_at_boot = record { track = 0; loaded = false }

-- OUT 08h bit 7, no drive
abbrev pub deselect : ℕ
deselect = 7

-- OUT 09h bit 0, step in
abbrev pub step_in : ℕ
step_in = 0

-- OUT 09h bit 1, step out
abbrev pub step_out : ℕ
step_out = 1

-- OUT 09h bit 2, head load
abbrev pub head_load : ℕ
head_load = 2

-- OUT 09h bit 3, head unload
abbrev pub head_unload : ℕ
head_unload = 3

-- OUT 09h bit 4, interrupt enable
abbrev pub interrupt_enable : ℕ
interrupt_enable = 4

-- OUT 09h bit 5, interrupt disable
abbrev pub interrupt_disable : ℕ
interrupt_disable = 5

-- OUT 09h bit 7, write enable; bit 6 switches the head's current, which changes nothing that a program sees
abbrev pub write_enable : ℕ
write_enable = 7

-- a bit of a byte
abbrev pub has_bit : ℕ → ℕ → Bool
has_bit byte bit = byte / 2 ^ bit % 2 == 1

-- OUT 08h: bit 7 set selects none; otherwise bits 3-0 name a drive, which is selected if it is attached
abbrev pub selected_by : ℕ → ℕ → Option ℕ
selected_by byte attached =
    let drive = byte % 16 in
    if not (has_bit byte deselect) && nat_lt drive attached then Some drive else None

-- the head one track inwards, no further than the last track
abbrev pub stepped_in : Drive → Drive
stepped_in drive = record drive { track = min (drive.track + 1) (TRACKS - 1) }

-- the head one track outwards, no further than track 0
abbrev pub stepped_out : Drive → Drive
stepped_out drive = record drive { track = drive.track - 1 }

-- the head on the disk
abbrev pub loaded : Drive → Drive
loaded drive = record drive { loaded = true }

-- the head off the disk
abbrev pub unloaded : Drive → Drive
unloaded drive = record drive { loaded = false }

-- a change to a drive, made if this bit of the command is set
abbrev pub where_set : ℕ → ℕ → (Drive → Drive) → Drive → Drive
where_set command bit change drive = if has_bit command bit then change drive else drive

-- OUT 09h on the selected drive, from bit 0 up
abbrev pub commanded_drive : ℕ → Drive → Drive
commanded_drive command drive =
    let after_in = where_set command step_in stepped_in drive in
    let after_out = where_set command step_out stepped_out after_in in
    let after_load = where_set command head_load loaded after_out in
    where_set command head_unload unloaded after_load

-- OUT 09h on the interrupt enable: it is set first, and then cleared
abbrev pub commanded_interrupts : ℕ → Bool → Bool
commanded_interrupts command enabled =
    (enabled || has_bit command interrupt_enable) && not (has_bit command interrupt_disable)

-- a step or an unload takes the head off the sector
abbrev pub moves_head : ℕ → Bool
moves_head command = has_bit command step_in || has_bit command step_out || has_bit command head_unload

-- a write of the sector starts, with no byte filled in
abbrev pub started : CurrentSector → CurrentSector
started s = record s { filled = Some 0 }

-- OUT 09h on the sector under the head: it leaves if it is being written or the head moves off it; otherwise a write of
-- it may start
abbrev pub commanded_sector : ℕ → Option CurrentSector → Option CurrentSector
commanded_sector command None = None
commanded_sector command (Some s) =
    if is_written s || moves_head command then None else Some (if has_bit command write_enable then started s else s)
