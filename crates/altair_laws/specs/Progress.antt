-- The form of the laws of pairs of Altairs that are copied by their images.
use Rattle.std.specs.Prelude.{ℕ, List}
use Rattle.altair_laws.specs.Copies.{IsCopiedRun, IsSetup, image_copy}
use Rattle.disk_dcdd.specs.declared.address.SectorAddress.{SectorAddress}
use Rattle.guest_board.specs.Guest.{altair}
use Rattle.guest_board.specs.declared.setup.Setup.{Setup}
use Rattle.guest_lockstep.specs.Machine.{Machine}
use Rattle.guest_parts.specs.Guest.{Guest}
use Rattle.pair_events.specs.declared.event.Event.{Event}
use Rattle.pair_protocol.specs.Copying.{Copying}
use Rattle.pair_protocol.specs.Reply.{Reply}
use Rattle.pair_protocol.specs.World.{World}

-- a law holds of each world of each run of such a pair
abbrev pub AltairsAlways : (Machine Guest → Copying Guest → World Guest → Type 0) → Type 0
AltairsAlways Law = (setup : Setup) (sectors : SectorAddress → List ℕ) → IsSetup setup sectors
    → (events : List Event) (replies : List Reply) (w : World Guest) → IsCopiedRun setup sectors events replies w
    → Law (altair setup sectors) (image_copy setup.drives) w
