-- The laws, of processes of the Altair of any setup that is copied by its image.
use Rattle.std.specs.Prelude.{ℕ, List}
use Rattle.altair_laws.specs.Copies.{IsSetup, image_copy}
use Rattle.altair_laws.specs.Hosts.{HaveRun}
use Rattle.disk_dcdd.specs.declared.address.SectorAddress.{SectorAddress}
use Rattle.guest_board.specs.Guest.{altair}
use Rattle.guest_board.specs.declared.setup.Setup.{Setup}
use Rattle.guest_lockstep.specs.Machine.{Machine}
use Rattle.guest_parts.specs.Guest.{Guest}
use Rattle.host_law.specs.Fleet.{Deed, Fleet}
use Rattle.host_law.specs.Shows.{Shows}
use Rattle.pair_protocol.specs.Copying.{Copying}
use Rattle.pair_protocol.specs.World.{World}

-- whatever happened since they booted, they show a world
abbrev pub AltairHostsShowAWorld : Type 0
AltairHostsShowAWorld =
    (setup : Setup) (sectors : SectorAddress → List ℕ) → IsSetup setup sectors → (spares : ℕ) (deeds : List Deed)
    (last : Fleet Guest) → HaveRun setup sectors spares deeds last →
    (w : World Guest) × Shows (altair setup sectors) (image_copy setup.drives) last w

-- and a law holds of each fleet and the world that it shows
abbrev pub AltairHostsAlways : (Machine Guest → Copying Guest → Fleet Guest → World Guest → Type 0) → Type 0
AltairHostsAlways Law =
    (setup : Setup) (sectors : SectorAddress → List ℕ) → IsSetup setup sectors → (f : Fleet Guest) (w : World Guest) →
    Shows (altair setup sectors) (image_copy setup.drives) f w → Law (altair setup sectors) (image_copy setup.drives) f w
