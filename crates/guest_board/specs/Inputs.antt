-- Which inputs a guest refuses, whatever setup it booted from; and where its head is.
use Rattle.std.specs.Prelude.{◌≡◌, ℕ, Bool, not, ◌==◌, ◌&&◌, if◌then◌else◌, Option, Some, None, List, [], slice_index}
use Rattle.std.specs.Option.{option_map, option_map_or}
use Rattle.std.specs.FinMap as map
use Rattle.i8080_words.specs.Steps.{at_reset}
use Rattle.i8080_words.specs.declared.refusal.Fault.{Fault}
use Rattle.i8080_words.specs.declared.refusal.Fault.TheVariants.{NotDue, StaleRead, SectorBusy}
use Rattle.disk_dcdd.specs.Drive.{Drives, drive_of}
use Rattle.disk_dcdd.specs.Completion.{is_selected, is_sector_due, is_busy_on}
use Rattle.disk_dcdd.specs.Address.{index_of}
use Rattle.disk_dcdd.specs.declared.address.SectorAddress.{SectorAddress}
use Rattle.event_callbacks.specs.Completions.{at_boot}
use Rattle.guest_lockstep.specs.Machine.{Machine, refusal_of}
use Rattle.guest_parts.specs.Guest.{Guest}
use Rattle.guest_board.specs.Guest.{altair, altair_from}
use Rattle.guest_lockstep.specs.declared.input.Input.{Input}
use Rattle.guest_board.specs.declared.setup.Setup.{Setup}

-- a guest without memory, which no setup gives
abbrev pub guest_nowhere : Guest
guest_nowhere = record {
  processor = at_reset;
  memory = [];
  devices = at_boot 1;
  operations = map.empty;
  issued = [];
  completed = [];
  count = 0;
  keys = [];
  levels = [];
  sense = 0;
}

-- an Altair, for when it does not matter where it boots from
abbrev pub some_altair : Machine Guest
some_altair = altair_from guest_nowhere (λ address. [])

-- why a guest refuses an input
abbrev pub refusal : Guest → Input → Option Fault
refusal g input = refusal_of some_altair g input

-- every Altair refuses alike
abbrev pub RefusesAlike : Guest → Input → Type 0
RefusesAlike g input =
    (setup : Setup) (sectors : SectorAddress → List ℕ) → refusal_of (altair setup sectors) g input ≡ refusal g input

-- why a sector does not come, given the controller and the last completed writes: it is not due, a write of it is
-- outstanding, or it was read before its last write
abbrev pub sector_refusal_by : Drives → List ℕ → SectorAddress → ℕ → Option Fault
sector_refusal_by disk completed address number =
    if not (is_selected disk address.drive && is_sector_due disk address.sector) then Some NotDue
    else if is_busy_on disk address.sector address.drive then Some SectorBusy
    else if not (option_map_or (λ index. slice_index completed index) (index_of address) 0 == number) then Some StaleRead
    else None

-- the same for a sector on the track that a drive's head is at
abbrev pub sector_refusal_at : Drives → List ℕ → ℕ → ℕ → ℕ → Option Fault
sector_refusal_at disk completed drive sector number =
    sector_refusal_by disk completed (record { drive = drive; track = (drive_of disk drive).track; sector = sector }) number

-- what is not due is refused
abbrev pub unless_due : Bool → Option Fault
unless_due due = if due then None else Some NotDue

-- the selected drive, and the track its head is at
abbrev pub place_of : Guest → Option (ℕ × ℕ)
place_of g = option_map (λ drive. (drive, (drive_of g.devices.disk drive).track)) g.devices.disk.selected
