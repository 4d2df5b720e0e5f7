-- Which values a board can have. A part that says anything else is refused, and so are parts that fit no board together.
use Rattle.std.specs.Prelude.{◌≡◌, ◌↔◌, ℕ, IfSome, IsTrue, Bool, true, false, not, ◌==◌, nat_lt, nat_le, ◌&&◌, List, [], ◌∷◌, length, drop}
use Rattle.std.specs.List.{list_all}
use Rattle.std.specs.Option.{option_map_or}
use Rattle.i8080_words.specs.declared.registers.Interrupts.{Interrupts}
use Rattle.i8080_words.specs.declared.registers.Interrupts.TheVariants.{Off, Soon, On}
use Rattle.i8080_words.specs.declared.registers.Processor.{Processor}
use Rattle.serial_2sio.specs.Port as serial
use Rattle.disk_dcdd.specs.Controller.{IsDrives}
use Rattle.disk_dcdd.specs.Completion.{is_head_loaded, is_sector_busy}
use Rattle.disk_dcdd.specs.Drive.{Drives}
use Rattle.disk_dcdd.specs.Sector.{is_at}
use Rattle.disk_dcdd.specs.declared.controller.TheConstants.{DRIVES, OUTSTANDING}
use Rattle.i8080_words.specs.declared.limits.TheConstants.{GREATEST_NUMBER}
use Rattle.disk_dcdd.specs.declared.drive.Drive.{Drive}
use Rattle.disk_dcdd.specs.declared.drive.TheConstants.{TRACKS}
use Rattle.disk_dcdd.specs.declared.sector.CurrentSector.{CurrentSector}
use Rattle.disk_dcdd.specs.declared.sector.Place.{Place}
use Rattle.disk_dcdd.specs.declared.sector.TheConstants.{SECTORS, SECTOR_BYTES}
use Rattle.guest_parts.specs.Parts.{port_stands, are_levels, are_completed}
use Rattle.clone_state.specs.Checkpoint.{FirstPart, Checkpoint}

-- ---- the processor

-- EI was executed, and the instruction after it was not
abbrev pub is_soon : Interrupts → Bool
is_soon Off = false
is_soon Soon = true
is_soon On = false

-- HLT is itself the instruction after EI, so a halted processor does not wait for another one
abbrev pub may_halt : Processor → Bool
may_halt p = not (p.halted && is_soon p.interrupts)

-- ---- the serial ports

-- every byte is 00
abbrev pub are_zeros : List ℕ → Bool
are_zeros bytes = list_all (λ byte. byte == 0) bytes

-- no more bytes are unaccepted than the window has places, and the places after them are 00
abbrev pub is_window : ℕ → List ℕ → Bool
is_window unaccepted bytes = nat_le unaccepted serial.window && are_zeros (drop unaccepted bytes)

-- ---- the disk controller

-- one to four drives
abbrev pub has_drives : ℕ → Bool
has_drives attached = nat_le 1 attached && nat_le attached DRIVES

-- no drive is selected, or an attached one
abbrev pub selects_attached : Drives → Bool
selects_attached d = option_map_or (λ drive. nat_lt drive d.attached) d.selected true

-- each head is on a track, and a drive that is not attached is as at boot: track 0, head unloaded
abbrev pub is_on_track : Drive → Bool
is_on_track drive = nat_lt drive.track TRACKS

abbrev pub is_at_boot : Drive → Bool
is_at_boot drive = drive.track == 0 && not drive.loaded

abbrev pub are_drives : Drives → Bool
are_drives d = list_all is_on_track d.drives && list_all is_at_boot (drop d.attached d.drives)

-- a sector under the head needs a selected drive whose head is loaded, at most 136 of its bytes read, at most 136 filled
-- in if it is being written, and no outstanding write of it
abbrev pub may_be_under_head : Drives → CurrentSector → Bool
may_be_under_head d s =
    is_head_loaded d
    && nat_lt s.sector SECTORS
    && nat_lt s.read SECTOR_BYTES
    && option_map_or (λ filled. nat_lt filled SECTOR_BYTES) s.filled true
    && not (is_sector_busy d s.sector)

abbrev pub has_current : Drives → Bool
has_current d = option_map_or (may_be_under_head d) d.current true

-- an outstanding write is one of those issued, and goes to a sector of an attached drive
abbrev pub is_issued : Drives → Place → Bool
is_issued d place =
    nat_le 1 place.number
    && nat_le place.number d.issued
    && nat_lt place.drive d.attached
    && nat_lt place.track TRACKS
    && nat_lt place.sector SECTORS

-- of two outstanding writes, the later has the greater number and goes to another sector
abbrev pub may_follow : Place → Place → Bool
may_follow earlier later =
    nat_lt earlier.number later.number && not (is_at later.drive later.track later.sector earlier)

abbrev pub are_in_order : List Place → Bool
are_in_order [] = true
are_in_order (place ∷ places) = list_all (may_follow place) places && are_in_order places

-- at most 8 writes are outstanding
abbrev pub are_outstanding : Drives → Bool
are_outstanding d =
    nat_le (length d.outstanding) OUTSTANDING && list_all (is_issued d) d.outstanding && are_in_order d.outstanding

-- all that a controller must meet
unfoldable pub is_controller : Drives → Bool
is_controller d =
    has_drives d.attached
    && selects_attached d
    && are_drives d
    && has_current d
    && are_outstanding d
    && nat_le d.issued GREATEST_NUMBER

-- ---- all together

-- a board can have what the first part says; of a port, no more bytes are unaccepted than were issued
unfoldable pub is_possible : FirstPart → Bool
is_possible f =
    may_halt f.processor
    && are_levels f.levels
    && port_stands f.devices f.issued f.keys 0
    && port_stands f.devices f.issued f.keys 1
    && is_controller f.devices.disk

-- the last completed writes fit the first part: none is past the writes issued, and none is outstanding
abbrev pub fits_together : Checkpoint → Bool
fits_together c = are_completed c.first.devices.disk c.completed

-- ---- what the tests decide

-- a controller of four drives, whose sector has all its bytes
pub record HasSizes (d : Drives) : Type 0 where
  pub drives : length d.drives ≡ DRIVES
  pub current : IfSome d.current (λ s. length s.bytes ≡ SECTOR_BYTES)

-- the tests of a controller pass exactly if it is one
abbrev pub ControllersAreDecided : Type 0
ControllersAreDecided = (d : Drives) → HasSizes d → IsTrue (is_controller d) ↔ IsDrives d
