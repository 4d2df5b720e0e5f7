-- A law of any lawful machine, for the Altair; and a world is shown at the end of each run.
use Rattle.std.proofs.Common.{ℕ, List}
use Rattle.altair_laws.specs.Copies.{IsSetup, TheImageCopies, image_copy}
use Rattle.disk_dcdd.specs.declared.address.SectorAddress.{SectorAddress}
use Rattle.guest_board.specs.Guest.{altair}
use Rattle.guest_board.specs.declared.setup.Setup.{Setup}
use Rattle.guest_lockstep.specs.Machine.{Machine}
use Rattle.guest_parts.specs.Guest.{Guest}
use Rattle.pair_protocol.specs.Copying.{Copying}
use Rattle.pair_protocol.specs.Lawful.{Lawful}
use Rattle.pair_protocol.specs.World.{World}
use Rattle.host_law.specs.Fleet.{Deed, Fleet}
use Rattle.host_law.specs.Laws.{Course, Ends, Goes}
use Rattle.host_law.specs.Shows.{Shows}
use Rattle.host_progress.specs.Altairs.{AltairHostsAlways}
use Rattle.host_progress.specs.Laws.{OfFleets}

pub of_altairs : (Asks : Machine Guest → Copying Guest → Type 0)
    (Law : Machine Guest → Copying Guest → Fleet Guest → World Guest → Type 0) → OfFleets Guest Asks Law →
    ((setup : Setup) (sectors : SectorAddress → List ℕ) → Lawful (altair setup sectors)) → TheImageCopies →
    ((setup : Setup) (sectors : SectorAddress → List ℕ) → IsSetup setup sectors →
    Asks (altair setup sectors) (image_copy setup.drives)) → AltairHostsAlways Law
of_altairs Asks Law always lawful copies asks setup sectors is f w shows =
    always (altair setup sectors) (image_copy setup.drives) (lawful setup sectors) (copies setup sectors is).0
    (asks setup sectors is) f w shows

pub shown_last : {S : Type 0} (M : Machine S) (C : Copying S) (f last : Fleet S) (w new : World S) (deeds : List Deed) →
    Course M C f w deeds last new → Shows M C last new
shown_last M C f last w new deeds (Ends shows faithful) = shows
shown_last M C f last w new _ (Goes {mid = mid} {v = v} {deeds = deeds} shows faithful step follows grows rest) =
    shown_last M C mid last v new deeds rest
