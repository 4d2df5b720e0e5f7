-- A law of any lawful machine, for the Altair.
use Rattle.std.proofs.Common.{ℕ, List}
use Rattle.altair_laws.specs.Copies.{IsSetup, TheImageCopies, image_copy}
use Rattle.disk_dcdd.specs.declared.address.SectorAddress.{SectorAddress}
use Rattle.guest_board.specs.Guest.{altair}
use Rattle.guest_board.specs.declared.setup.Setup.{Setup}
use Rattle.guest_lockstep.specs.Machine.{Machine}
use Rattle.guest_parts.specs.Guest.{Guest}
use Rattle.pair_protocol.specs.Copying.{Copying}
use Rattle.pair_protocol.specs.Lawful.{Lawful}
use Rattle.pair_protocol.specs.World.{World}
use Rattle.pair_protocol.proofs.Promises.Runs.{run_reaches}
use Rattle.pair_progress.specs.Always.{Always}
use Rattle.altair_laws.specs.Progress.{AltairsAlways}

pub of_altairs : (Asks : Machine Guest → Copying Guest → Type 0) (Law : Machine Guest → Copying Guest → World Guest → Type 0)
    → Always Guest Asks Law → ((setup : Setup) (sectors : SectorAddress → List ℕ) → Lawful (altair setup sectors))
    → TheImageCopies → ((setup : Setup) (sectors : SectorAddress → List ℕ) → IsSetup setup sectors
    → Asks (altair setup sectors) (image_copy setup.drives)) → AltairsAlways Law
of_altairs Asks Law always lawful copies asks setup sectors is events replies w run =
    always (altair setup sectors) (image_copy setup.drives) (lawful setup sectors) (copies setup sectors is).0
    (asks setup sectors is) w
    (run_reaches (altair setup sectors) (image_copy setup.drives) setup.reads events replies w run)
