-- Processes of the Altair of a setup, which its image copies.
use Rattle.std.specs.Prelude.{ℕ, List}
use Rattle.altair_laws.specs.Copies.{IsSetup, image_copy}
use Rattle.disk_dcdd.specs.declared.address.SectorAddress.{SectorAddress}
use Rattle.guest_board.specs.Guest.{altair}
use Rattle.guest_board.specs.declared.setup.Setup.{Setup}
use Rattle.guest_parts.specs.Guest.{Guest}
use Rattle.host_law.specs.Fleet.{Deed, Fleet, Happened, booted, with_spares}
use Rattle.host_law.specs.Kept.{IsKept}
use Rattle.host_law.specs.Laws.{IsCourse}
use Rattle.pair_protocol.specs.World.{opening}

-- they have booted by a setup, with this many spare hosts
abbrev pub begins : Setup → (SectorAddress → List ℕ) → ℕ → Fleet Guest
begins setup sectors spares = booted (altair setup sectors) setup.reads spares

-- this happened since
abbrev pub HaveRun : Setup → (SectorAddress → List ℕ) → ℕ → List Deed → Fleet Guest → Type 0
HaveRun setup sectors spares deeds last =
    Happened (altair setup sectors) (image_copy setup.drives) (begins setup sectors spares) deeds last

-- after each step they show a faithful world, and what is settled has only grown
abbrev pub AltairHostsAreFaithful : Type 0
AltairHostsAreFaithful =
    (setup : Setup) (sectors : SectorAddress → List ℕ) → IsSetup setup sectors → (spares : ℕ) (deeds : List Deed)
    (last : Fleet Guest) → HaveRun setup sectors spares deeds last →
    IsCourse (altair setup sectors) (image_copy setup.drives) (begins setup sectors spares)
    (with_spares (altair setup sectors) spares (opening (altair setup sectors) setup.reads)) deeds last

-- and in the end the devices at the outside have what one never-failing Altair gives
abbrev pub AltairHostsAreKept : Type 0
AltairHostsAreKept =
    (setup : Setup) (sectors : SectorAddress → List ℕ) → IsSetup setup sectors → (spares : ℕ) (deeds : List Deed)
    (last : Fleet Guest) → HaveRun setup sectors spares deeds last → IsKept (altair setup sectors) last
