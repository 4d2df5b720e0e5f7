-- Processes of the Altair of a setup, which its image copies.
use Rattle.std.specs.Prelude.{ℕ, List}
use Rattle.altair_laws.specs.Copies.{IsSetup, image_copy}
use Rattle.disk_dcdd.specs.declared.address.SectorAddress.{SectorAddress}
use Rattle.guest_board.specs.Guest.{altair}
use Rattle.guest_board.specs.declared.setup.Setup.{Setup}
use Rattle.guest_parts.specs.Guest.{Guest}
use Rattle.command_console.specs.Laws.{AreKept}
use Rattle.command_console.specs.Processes.{HaveBooted, Processes}
use Rattle.command_console.specs.Runs.{Runs, passed_on}

-- whatever they do, the devices at the outside have what one never-failing Altair gives, and so have the screens; `guest` is the
-- Altair of a board
abbrev pub AltairProcessesAreKept : (B H : Type 0) → Type 0
AltairProcessesAreKept B H =
    (guest : B → Guest) (setup : Setup) (sectors : SectorAddress → List ℕ) → IsSetup setup sectors →
    (first last : Processes B H) →
    HaveBooted guest (altair setup sectors) (image_copy setup.drives) setup.drives first →
    (way : Runs guest (altair setup sectors) guest first last) →
    AreKept guest (altair setup sectors) (image_copy setup.drives) setup.drives (passed_on way) last
